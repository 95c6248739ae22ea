-- The orders of a joint run's events, as whole statements.
use Rattle.std.specs.Prelude.{List}
use Rattle.tm_base.specs.declared.events.Entry.{Entry}
use Rattle.tm_base.specs.Orders.{IsWellPlaced, IsStamped}
use Rattle.tm_text.specs.Exercises.{ExerciseView}
use Rattle.tm_replay.specs.JointStates.{JointState}
use Rattle.tm_replay.specs.JointSteps.{IsJointRun}

-- The events are in order: their places run from 1 in each thread and at each object, and each stamp is
-- 1 plus the greatest stamp of the event's direct predecessors.
pub record AreOrdered (es : List Entry) : Type 0 where
  pub placed : IsWellPlaced es
  pub stamped : IsStamped es

-- The events of every joint run are well placed.
abbrev pub RunsAreWellPlaced : Type 0
RunsAreWellPlaced = (x : ExerciseView) (es : List Entry) (j : JointState) → IsJointRun x es j → IsWellPlaced es

-- The events of every joint run are stamped by the rule of direct predecessors.
abbrev pub RunsAreStamped : Type 0
RunsAreStamped = (x : ExerciseView) (es : List Entry) (j : JointState) → IsJointRun x es j → IsStamped es
