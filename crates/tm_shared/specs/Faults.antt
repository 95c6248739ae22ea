-- Why a call that tries once made no event.
use Rattle.std.specs.Prelude.{◌≡◌, false, ◌||◌}
use Rattle.tm_base.specs.declared.operations.Op.{Op}
use Rattle.tm_base.specs.Histories.{Label}
use Rattle.tm_laws.specs.ThreadObjects.{is_begin, is_end}
use Rattle.tm_turn.specs.Passes.{PassView, mine}
use Rattle.tm_shared.specs.Calls.{TookTurn, LostTurn, StillWaits}
use Rattle.tm_shared.specs.declared.faults.TryFault.{TryFault}
use Rattle.tm_shared.specs.declared.faults.TryFault.TheVariants as try_fault
use Rattle.tm_shared.specs.declared.faults.FinishFault.{FinishFault}
use Rattle.tm_shared.specs.declared.faults.FinishFault.TheVariants as finish_fault

-- The pass took its turn, and added nothing, since memory ran out: the operation is no `begin` and no `end`,
-- for which there always is room.
pub record FoundNoRoom (l : Label) (old : PassView) (o : Op) (new : PassView) : Type 0 where
  pub turn : TookTurn l old new
  pub mine : mine new ≡ mine old
  pub not_owed : (is_begin o || is_end o) ≡ false

-- At its own turn the pass saw that its call waits, and was granted no reply.
pub record SawItWait (l : Label) (old new : PassView) : Type 0 where
  pub turn : TookTurn l old new
  pub mine : mine new ≡ mine old
  pub waits : StillWaits l new.seen old.number

-- The pass lost the turn to the pass that is named; or memory ran out at its turn.
abbrev pub FailedToBegin : Label → PassView → Op → TryFault → PassView → Type 0
FailedToBegin l old o (try_fault.Busy holder) new = LostTurn old holder new
FailedToBegin l old o try_fault.NoMemory new = FoundNoRoom l old o new

-- The pass lost the turn to the pass that is named; or its call still waits.
abbrev pub FailedToFinish : Label → PassView → FinishFault → PassView → Type 0
FailedToFinish l old finish_fault.NotYet new = SawItWait l old new
FailedToFinish l old (finish_fault.Busy holder) new = LostTurn old holder new
