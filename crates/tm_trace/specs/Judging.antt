-- Whether the events of a trace, in no order, can have been a run.
use Rattle.std.specs.Prelude.{List, IsPermutation}
use Rattle.tm_base.specs.declared.events.Entry.{Entry}
use Rattle.tm_base.specs.Orders.{KeepsPredecessors}
use Rattle.tm_text.specs.Exercises.{ExerciseView}
use Rattle.tm_merge.specs.MergerViews.{MergerView}
use Rattle.tm_replay.specs.JointStates.{JointState}
use Rattle.tm_replay.specs.JointSteps.{IsJointRun}
use Rattle.tm_order.specs.LegalEvents.{AreLegal}
use Rattle.tm_order.specs.LinearExtensions.{IsLinearExtension}
use Rattle.tm_order.specs.StampOrder.{IsInStampOrder}
use Rattle.tm_joint.specs.declared.refusals.Illegal.{Illegal}
use Rattle.tm_trace.specs.declared.faults.JudgeFault.{JudgeFault}
use Rattle.tm_trace.specs.declared.faults.JudgeFault.TheVariants as fault
use Rattle.tm_trace.specs.Offering.{IsFirstRefusal}
use Rattle.tm_trace.specs.Merging.{HoldsNothing, IsFirstHold}
use Rattle.tm_trace.specs.Replaying.{IsFirstIllegal}

-- These are the events by rising stamp and then thread number. They are a joint run, in which each stands after
-- all that happened before it (Lamport, CACM 1978); and so is each other order of the events in which every
-- event stands after its direct predecessors, with the same joint state at its end.
pub record IsAccepted (x : ExerciseView) (es order : List Entry) : Type 0 where
  pub permutation : IsPermutation es order
  pub by_stamp : IsInStampOrder order
  pub joint : JointState
  pub run : IsJointRun x order joint
  pub extension : IsLinearExtension es order
  pub others : (other : List Entry) → IsPermutation es other → KeepsPredecessors other → IsJointRun x other joint

-- The merger takes and shows all events, and this is the first one shown that can't happen after those before it.
pub record IsFirstBreak (x : ExerciseView) (es : List Entry) (i : Illegal) : Type 0 where
  pub merger : MergerView
  pub merged : HoldsNothing x es merger
  pub illegal : IsFirstIllegal x merger.shown i

-- What the fault says is so, and none that is looked for before it is.
abbrev pub IsFault : ExerciseView → List Entry → JudgeFault → Type 0
IsFault x es (fault.Refused r) = IsFirstRefusal x es r
IsFault x es (fault.Held hold) = IsFirstHold x es hold
IsFault x es (fault.Illegal i) = IsFirstBreak x es i
IsFault x es fault.NoMemory = Unit {0}

-- No order of the events is a joint run, unless memory ran out.
abbrev pub IsExact : ExerciseView → List Entry → JudgeFault → Type 0
IsExact x es fault.NoMemory = Unit {0}
IsExact x es f = AreLegal x es → ⊥
