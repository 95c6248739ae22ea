-- Orders of events that keep the causal order: its linear extensions.
use Rattle.std.specs.Prelude.{◌≡◌, ◌↔◌, List, ◌∷◌, ◌++◌, Contains, IsPermutation}
use Rattle.tm_base.specs.declared.events.Entry.{Entry}
use Rattle.tm_base.specs.Orders.{HappenedBefore, KeepsPredecessors}
use Rattle.tm_text.specs.Exercises.{ExerciseView}
use Rattle.tm_replay.specs.JointStates.{JointState}
use Rattle.tm_replay.specs.JointSteps.{IsJointRun}

-- The order has the events, each after all that happened before it: it is a linear extension of
-- happened-before (Lamport, CACM 1978).
pub record IsLinearExtension (events order : List Entry) : Type 0 where
  pub permutation : IsPermutation events order
  pub after : (prefix back : List Entry) (a b : Entry) → order ≡ prefix ++ b ∷ back → HappenedBefore events a b → Contains prefix a

-- An order of the events that keeps direct predecessors keeps all that happened before.
abbrev pub PredecessorsAreEnough : Type 0
PredecessorsAreEnough = (es order : List Entry) → IsPermutation es order → KeepsPredecessors order ↔ IsLinearExtension es order

-- Of the orders in which the events of a joint run can stand, those are joint runs in which each event stands
-- after its direct predecessors; and all leave the same joint state.
abbrev pub JointRunsRearrange : Type 0
JointRunsRearrange = (x : ExerciseView) (es order : List Entry) (j : JointState) → IsJointRun x es j → IsPermutation es order
    → IsJointRun x order j ↔ KeepsPredecessors order
