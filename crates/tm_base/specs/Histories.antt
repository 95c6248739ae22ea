-- The legal histories of one object.
use Rattle.std.specs.Prelude.{◌≡◌, ℕ, suc, ◌<◌, false, Some, IsSome, List}
use Rattle.tm_base.specs.declared.operations.Op.{Op}
use Rattle.tm_base.specs.declared.operations.Op.TheVariants as op
use Rattle.tm_base.specs.declared.replies.Reply.{Reply}
use Rattle.tm_base.specs.declared.replies.Reply.TheVariants as reply
use Rattle.tm_base.specs.declared.kinds.Kind.{Kind}
use Rattle.tm_base.specs.declared.events.Entry.{Entry}
use Rattle.tm_base.specs.States.{State, start_state, grant_of, resumed, halted}
use Rattle.tm_base.specs.Machines.{ObjectView, CanStep}
use Rattle.tm_base.specs.Steps.{Step}
use Rattle.tm_base.specs.Runs.{Leads}

-- An object: its number, its kind, and the number of threads that use it.
pub record Label : Type 0 where
  pub object : ℕ
  pub kind : Kind
  pub threads : ℕ

-- How far a history has come: how many events it has, the last one's stamp (0 where there is none), and
-- the state that they leave.
pub record HistoryState : Type 0 where
  pub at : ℕ
  pub stamp : ℕ
  pub state : State

abbrev pub first_history_state : Label → HistoryState
first_history_state l = record { at = 0; stamp = 0; state = start_state l.kind l.threads }

-- A program thread whose call isn't pending makes an operation in turn, by the textbook.
pub record Calls (h : ObjectView) (t : ℕ) (o : Op) (r : Reply) (s' : State) : Type 0 where
  pub may : CanStep h t o
  pub step : Step h.kind h.state t o r s'

-- A thread whose call was granted takes the granted reply, which is cleared.
pub record Resumes (s : State) (t : ℕ) (r : Reply) (s' : State) : Type 0 where
  pub granted : grant_of s t ≡ Some r
  pub cleared : s' ≡ resumed s t

-- `main` stops an object that isn't stopped: every call that waits is granted `stopped`.
pub record Halts (s : State) (t : ℕ) (r : Reply) (s' : State) : Type 0 where
  pub main : t ≡ 0
  pub running : s.stopped ≡ false
  pub reply : r ≡ reply.Ok
  pub halted : s' ≡ halted s

-- The event is lawful in the state of the object, and leaves state s'.
abbrev pub Lawful : ObjectView → ℕ → Op → Reply → State → Type 0
Lawful h t op.Resume r s' = Resumes h.state t r s'
Lawful h t op.Stop r s' = Halts h.state t r s'
Lawful h t o r s' = Calls h t o r s'

-- The object has a lawful event with this thread and operation: a call in turn, a resume where a
-- reply was granted, or a stop by `main` where it isn't stopped.
abbrev pub CanAnswer : ObjectView → ℕ → Op → Type 0
CanAnswer h t op.Resume = IsSome (grant_of h.state t)
CanAnswer h t op.Stop = (t ≡ 0) × (h.state.stopped ≡ false)
CanAnswer h t o = CanStep h t o

-- The object of the label in this state.
abbrev pub object_at : Label → State → ObjectView
object_at l s = record { kind = l.kind; threads = l.threads; state = s }

-- The event is the next one of the object's history: it names the object, its place is one more than
-- the last, its stamp rises, and it is lawful.
pub record Follows (l : Label) (p : HistoryState) (e : Entry) (q : HistoryState) : Type 0 where
  pub object : e.object ≡ l.object
  pub at : e.at ≡ suc p.at
  pub rises : p.stamp < e.stamp
  pub lawful : Lawful (object_at l p.state) e.thread e.op e.reply q.state
  pub now_at : q.at ≡ e.at
  pub now_stamp : q.stamp ≡ e.stamp

-- The events are a legal history of the object, which leaves this point.
abbrev pub IsHistory : Label → List Entry → HistoryState → Type 0
IsHistory l es p = Leads (Follows l) (first_history_state l) es p
