-- The order of events by their stamps.
use Rattle.std.specs.Prelude.{◌≡◌, List, AllPairs, IsPermutation}
use Rattle.tm_base.specs.declared.events.Entry.{Entry}
use Rattle.tm_base.specs.Orders.{HappenedBefore, IsWellPlaced, IsNotLater, StampsRise}
use Rattle.tm_text.specs.Exercises.{ExerciseView}
use Rattle.tm_replay.specs.JointStates.{JointState}
use Rattle.tm_replay.specs.JointSteps.{IsJointRun}
use Rattle.tm_order.specs.LinearExtensions.{IsLinearExtension}

-- The events stand by rising stamp, and then by thread number.
abbrev pub IsInStampOrder : List Entry → Type 0
IsInStampOrder es = AllPairs IsNotLater es

-- None of the events happened before itself, and they have exactly one order by stamp, which is a linear
-- extension of happened-before.
pub record AreOrderedByStamps (es : List Entry) : Type 0 where
  pub acyclic : (e : Entry) → HappenedBefore es e e → ⊥
  pub exists : (order : List Entry) × IsPermutation es order × IsInStampOrder order
  pub extends : (order : List Entry) → IsPermutation es order → IsInStampOrder order → IsLinearExtension es order
  pub one : (order other : List Entry) → IsPermutation es order → IsPermutation es other → IsInStampOrder order → IsInStampOrder other → order ≡ other

-- Well placed events that meet the clock condition are ordered by their stamps.
abbrev pub StampsOrderEvents : Type 0
StampsOrderEvents = (es : List Entry) → IsWellPlaced es → StampsRise es → AreOrderedByStamps es

-- The events of a joint run, by rising stamp and then thread number, are a joint run, which leaves the same
-- joint state.
abbrev pub StampsOrderJointRuns : Type 0
StampsOrderJointRuns = (x : ExerciseView) (es order : List Entry) (j : JointState) → IsJointRun x es j → IsPermutation es order → IsInStampOrder order → IsJointRun x order j
