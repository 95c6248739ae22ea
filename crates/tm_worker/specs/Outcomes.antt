-- When a thread can make a call, and why one made no event.
use Rattle.std.specs.Prelude.{◌≡◌, ℕ, ◌≤◌, true, List, length, slice_get, Some, None}
use Rattle.tm_base.specs.declared.operations.Op.{Op}
use Rattle.tm_base.specs.Fits.{fits}
use Rattle.tm_base.specs.Machines.{is_step}
use Rattle.tm_base.specs.Orders.{of_object}
use Rattle.tm_shared.specs.OwnEvents.{IsInTurnAfter}
use Rattle.tm_shared.specs.Calls.{LostTurn}
use Rattle.tm_shared.specs.Faults.{FoundNoRoom, SawItWait}
use Rattle.tm_shared.specs.declared.faults.TryFault.{TryFault}
use Rattle.tm_shared.specs.declared.faults.TryFault.TheVariants as try_fault
use Rattle.tm_shared.specs.declared.faults.FinishFault.{FinishFault}
use Rattle.tm_shared.specs.declared.faults.FinishFault.TheVariants as finish_fault
use Rattle.tm_turn.specs.Passes.{IsPassOf, PassView, TurnView}
use Rattle.tm_worker.specs.Logs.{LogView, AtPass}

-- The objects are those of the passes, in the same order, and the thread is one of their threads.
pub record SuitsPasses (shared : List TurnView) (passes : List PassView) (thread : ℕ) : Type 0 where
  pub count : length shared ≡ length passes
  pub of : (k : ℕ) (s : TurnView) (p : PassView) → slice_get shared k ≡ Some s → slice_get passes k ≡ Some p → IsPassOf s p
  pub known : (k : ℕ) (s : TurnView) → slice_get shared k ≡ Some s → thread ≤ s.label.threads

-- The thread can make the call on the object: it is a program thread, none of its calls waits, the object has the
-- operation, and on a thread object it is in turn.
pub record CanCall (log : LogView) (object : ℕ) (o : Op) : Type 0 where
  pub program : 1 ≤ log.ticket.thread
  pub free : log.ticket.waits ≡ None
  pub pass : PassView
  pub found : slice_get log.passes object ≡ Some pass
  pub fit : fits o pass.label.kind ≡ true
  pub step : is_step o ≡ true
  pub in_turn : IsInTurnAfter pass.label.kind (of_object log.outbox.sent object) log.ticket.thread o

-- The pass of the object lost the turn to the pass that is named; or found no room for the call at its turn.
abbrev pub FailedToCall : LogView → ℕ → Op → TryFault → LogView → Type 0
FailedToCall old object o (try_fault.Busy holder) new = AtPass old.passes new.passes object (λ p q. LostTurn p holder q)
FailedToCall old object o try_fault.NoMemory new = AtPass old.passes new.passes object (λ p q. FoundNoRoom p.label p o q)

-- At its own turn the pass of the object saw that the call waits; or it lost the turn to the pass that is named.
abbrev pub FailedToResume : LogView → ℕ → FinishFault → LogView → Type 0
FailedToResume old object finish_fault.NotYet new = AtPass old.passes new.passes object (λ p q. SawItWait p.label p q)
FailedToResume old object (finish_fault.Busy holder) new = AtPass old.passes new.passes object (λ p q. LostTurn p holder q)
