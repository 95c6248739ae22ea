-- Events in no order, as the lines of a trace: whether they can have been a run.
use Rattle.std.specs.Prelude.{◌≡◌, List, ◌∷◌, ◌++◌, IsPermutation}
use Rattle.tm_base.specs.declared.events.Entry.{Entry}
use Rattle.tm_base.specs.Orders.{IsWellPlaced, KeepsPredecessors, StampsRise}
use Rattle.tm_text.specs.Exercises.{ExerciseView}
use Rattle.tm_replay.specs.JointStates.{JointState}
use Rattle.tm_replay.specs.JointSteps.{IsJointRun, JointStep}
use Rattle.tm_order.specs.StampOrder.{IsInStampOrder}
use Rattle.tm_order.specs.Interleavings.{AreInRange}

-- Some order of the events is a joint run.
pub record AreLegal (x : ExerciseView) (es : List Entry) : Type 0 where
  pub order : List Entry
  pub permutation : IsPermutation es order
  pub joint : JointState
  pub run : IsJointRun x order joint

-- The events are by threads of the exercise and on its objects, they are well placed, their stamps rise from
-- direct predecessors, and each order in which every event stands after its direct predecessors is a joint
-- run, as is the order by stamp; all of these leave one joint state.
pub record RunInEachOrder (x : ExerciseView) (es : List Entry) : Type 0 where
  pub range : AreInRange x es
  pub placed : IsWellPlaced es
  pub rise : StampsRise es
  pub joint : JointState
  pub runs : (order : List Entry) → IsPermutation es order → KeepsPredecessors order → IsJointRun x order joint
  pub sorted : (order : List Entry) → IsPermutation es order → IsInStampOrder order → IsJointRun x order joint

-- Where one order of the events is a joint run, all are that keep direct predecessors.
abbrev pub LegalEventsRun : Type 0
LegalEventsRun = (x : ExerciseView) (es : List Entry) → AreLegal x es → RunInEachOrder x es

-- The order is a joint run up to the event, which is no joint step then.
pub record BreaksOff (x : ExerciseView) (order : List Entry) : Type 0 where
  pub prefix : List Entry
  pub event : Entry
  pub back : List Entry
  pub parts : order ≡ prefix ++ event ∷ back
  pub joint : JointState
  pub run : IsJointRun x prefix joint
  pub illegal : (k : JointState) → JointStep x joint event k → ⊥

-- Where an order that keeps direct predecessors breaks off, no order of the events is a joint run.
abbrev pub BrokenOrdersAreIllegal : Type 0
BrokenOrdersAreIllegal = (x : ExerciseView) (es order : List Entry) → IsPermutation es order → KeepsPredecessors order → BreaksOff x order → AreLegal x es → ⊥
