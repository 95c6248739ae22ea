-- How many events an object owes: those that come whatever happens, once nothing else is begun.
use Rattle.std.specs.Prelude.{◌≡◌, ℕ, zero, suc, ◌+◌, not, if◌then◌else◌}
use Rattle.tm_base.specs.declared.operations.Op.{Op}
use Rattle.tm_base.specs.declared.operations.Op.TheVariants as op
use Rattle.tm_base.specs.declared.replies.Reply.{Reply}
use Rattle.tm_base.specs.declared.kinds.Kind.{Kind}
use Rattle.tm_base.specs.declared.kinds.Kind.TheVariants as kind
use Rattle.tm_base.specs.States.{KindState, State, is_pending}
use Rattle.tm_base.specs.Machines.{ObjectView, changed}
use Rattle.tm_base.specs.Histories.{Lawful}
use Rattle.tm_laws.specs.Counts.{bit, is_wait}
use Rattle.tm_laws.specs.Tidy.{IsSound}
use Rattle.tm_laws.specs.ThreadObjects.{has_begun, has_ended}

-- How many of the threads from 1 to n have a pending call.
abbrev pub pending_to : State → ℕ → ℕ
pending_to s zero = 0
pending_to s (suc n) = pending_to s n + bit (is_pending s (suc n))

-- A thread object owes its end until it is made, and until the thread has begun its begin and the resume
-- of that.
abbrev pub own_owed : Kind → KindState → ℕ
own_owed (kind.Thread n held) own = bit (not (has_ended own)) + (if has_begun own then 0 else 2)
own_owed k own = 0

-- One event for each pending call, one for the stop until it is made, and what a thread object owes.
abbrev pub owed : ObjectView → ℕ
owed h = pending_to h.state h.threads + (bit (not h.state.stopped) + own_owed h.kind h.state.kind_state)

-- How many of the owed events the operation makes, or saves.
abbrev pub paid : Op → ℕ
paid op.Begin = 2
paid (op.End cut) = 1
paid op.Resume = 1
paid op.Stop = 1
paid o = 0

-- An event pays what it pays, and owes one more exactly if its call waits.
abbrev pub OwedMoves : Type 0
OwedMoves = (h : ObjectView) (t : ℕ) (o : Op) (r : Reply) (s' : State) → IsSound h → Lawful h t o r s' → owed (changed h s') + paid o ≡ owed h + bit (is_wait r)
