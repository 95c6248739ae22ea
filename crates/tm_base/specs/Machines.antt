-- What contracts see of a machine, and when it may be called.
use Rattle.std.specs.Prelude.{◌≡◌, ℕ, ◌≤◌, Bool, true, false, ◌||◌, ◌==◌, Option, Some, None}
use Rattle.tm_base.specs.declared.operations.Op.{Op}
use Rattle.tm_base.specs.declared.operations.Op.TheVariants as op
use Rattle.tm_base.specs.declared.replies.Reply.{Reply}
use Rattle.tm_base.specs.declared.kinds.Kind.{Kind}
use Rattle.tm_base.specs.declared.kinds.Kind.TheVariants as kind
use Rattle.tm_base.specs.Fits.{fits}
use Rattle.tm_base.specs.States.{KindState, State, MutexState, HoareState, MesaState, RwState, ThreadObjectState, start_state, is_pending, is_queued}
use Rattle.tm_base.specs.TableRows.{AllowsReply}
use Rattle.tm_base.specs.Steps.{Step, row_of}

-- An object's kind, the number of threads that use it, and its state.
pub record ObjectView : Type 0 where
  pub kind : Kind
  pub threads : ℕ
  pub state : State

-- The object before its first event.
abbrev pub fresh : Kind → ℕ → ObjectView
fresh k threads = record { kind = k; threads = threads; state = start_state k threads }

-- The same object in another state.
abbrev pub changed : ObjectView → State → ObjectView
changed h s = record { kind = h.kind; threads = h.threads; state = s }

-- On a thread object `begin` and `end` are the thread's own, `begin` comes once, and `end` once after it.
abbrev pub IsInTurn : Kind → KindState → ℕ → Op → Type 0
IsInTurn (kind.Thread own held) (ThreadObjectState started begun ended beginning joiners) t op.Begin = (t ≡ own) × (begun ≡ false)
IsInTurn (kind.Thread own held) (ThreadObjectState started begun ended beginning joiners) t (op.End cut) = (t ≡ own) × (begun ≡ true) × (ended ≡ false)
IsInTurn k own t o = Unit {0}

-- The operation is made by calling `step`.
abbrev pub is_step : Op → Bool
is_step op.Resume = false
is_step op.Stop = false
is_step o = true

-- When a thread may make an operation: it is a program thread without a pending call, and the operation
-- is one of the kind's and in turn.
pub record CanStep (h : ObjectView) (t : ℕ) (o : Op) : Type 0 where
  pub program : 1 ≤ t
  pub known : t ≤ h.threads
  pub free : is_pending h.state t ≡ false
  pub fit : fits o h.kind ≡ true
  pub step : is_step o ≡ true
  pub in_turn : IsInTurn h.kind h.state.kind_state t o

-- The object made a textbook step.
pub record Steps (old : ObjectView) (t : ℕ) (o : Op) (r : Reply) (new : ObjectView) : Type 0 where
  pub kind : new.kind ≡ old.kind
  pub threads : new.threads ≡ old.threads
  pub step : Step old.kind old.state t o r new.state

-- The row of the table allows the reply.
abbrev pub Answers : ObjectView → ℕ → Op → Reply → Type 0
Answers h t o r = AllowsReply (row_of h.kind h.state.kind_state t o) h.state.stopped r

-- The thread is the one in the place.
abbrev pub is_in : Option ℕ → ℕ → Bool
is_in None t = false
is_in (Some x) t = x == t

-- The thread owns the mutex, is inside the monitor, is the writer or a reader of the reader-writer
-- lock, or is the thread object's own thread and hasn't ended.
abbrev pub kind_holds : Kind → KindState → ℕ → Bool
kind_holds k (MutexState owner queue) t = is_in owner t
kind_holds k (HoareState inside entrance urgent conditions) t = is_in inside t
kind_holds k (MesaState inside entrance conditions) t = is_in inside t
kind_holds k (RwState readers writer queue) t = is_in writer t || is_queued readers t
kind_holds (kind.Thread own held) (ThreadObjectState started begun false beginning joiners) t = own == t
kind_holds k own t = false

abbrev pub holds : ObjectView → ℕ → Bool
holds h t = kind_holds h.kind h.state.kind_state t
