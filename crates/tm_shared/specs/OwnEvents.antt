-- What a thread's own events on an object say of it.
use Rattle.std.specs.Prelude.{◌≡◌, ℕ, ◌≤◌, Bool, true, false, List, fold}
use Rattle.std.specs.List.{list_any}
use Rattle.tm_base.specs.declared.operations.Op.{Op}
use Rattle.tm_base.specs.declared.operations.Op.TheVariants as op
use Rattle.tm_base.specs.declared.kinds.Kind.{Kind}
use Rattle.tm_base.specs.declared.kinds.Kind.TheVariants as kind
use Rattle.tm_base.specs.declared.events.Entry.{Entry}
use Rattle.tm_base.specs.Fits.{fits, is_stop}
use Rattle.tm_base.specs.States.{is_pending}
use Rattle.tm_base.specs.Machines.{CanStep, is_step}
use Rattle.tm_base.specs.Histories.{Label, HistoryState, IsHistory, object_at}
use Rattle.tm_base.specs.Orders.{of_thread, last_stamp}
use Rattle.tm_laws.specs.Counts.{is_wait}
use Rattle.tm_laws.specs.ThreadObjects.{is_begin, is_end}

-- The last event's reply is `wait`.
abbrev pub ends_waiting : List Entry → Bool
ends_waiting es = fold (λ waits e. is_wait e.reply) false es

-- One of the events is a `stop`, a `begin` or an `end`.
abbrev pub has_stop : List Entry → Bool
has_stop es = list_any (λ e. is_stop e.op) es

abbrev pub has_begin : List Entry → Bool
has_begin es = list_any (λ e. is_begin e.op) es

abbrev pub has_end : List Entry → Bool
has_end es = list_any (λ e. is_end e.op) es

-- On a thread object `begin` and `end` are the thread's own, `begin` comes once, and `end` once after it.
abbrev pub IsInTurnAfter : Kind → List Entry → ℕ → Op → Type 0
IsInTurnAfter (kind.Thread own held) mine t op.Begin = (t ≡ own) × (has_begin mine ≡ false)
IsInTurnAfter (kind.Thread own held) mine t (op.End cut) = (t ≡ own) × (has_begin mine ≡ true) × (has_end mine ≡ false)
IsInTurnAfter k mine t o = Unit {0}

-- When a thread that has made these events on the object, and no others there, may call it: it is a program
-- thread whose last call there doesn't wait, and the operation is one of the kind's and in turn.
pub record MayCall (l : Label) (mine : List Entry) (t : ℕ) (o : Op) : Type 0 where
  pub program : 1 ≤ t
  pub known : t ≤ l.threads
  pub free : ends_waiting mine ≡ false
  pub fit : fits o l.kind ≡ true
  pub step : is_step o ≡ true
  pub in_turn : IsInTurnAfter l.kind mine t o

-- What a history's events say of the state that it leaves: a thread's call is pending exactly where the
-- thread's last reply is `wait`; the last stamp is the last event's, and no thread's is later; the object was
-- stopped exactly where there is a `stop`; and a thread can make each call that it may make by its own events.
pub record EventsTell (l : Label) (es : List Entry) (p : HistoryState) : Type 0 where
  pub pending : (t : ℕ) → is_pending p.state t ≡ ends_waiting (of_thread es t)
  pub stamp : p.stamp ≡ last_stamp es
  pub own_stamp : (t : ℕ) → last_stamp (of_thread es t) ≤ last_stamp es
  pub stopped : p.state.stopped ≡ has_stop es
  pub may : (t : ℕ) (o : Op) → MayCall l (of_thread es t) t o → CanStep (object_at l p.state) t o

abbrev pub OwnEventsTell : Type 0
OwnEventsTell = (l : Label) (es : List Entry) (p : HistoryState) → IsHistory l es p → EventsTell l es p
