-- Events that are applied to an exercise's joint state one after the other.
use Rattle.std.specs.Prelude.{◌≡◌, List, ◌∷◌, ◌++◌}
use Rattle.tm_base.specs.declared.events.Entry.{Entry}
use Rattle.tm_text.specs.Exercises.{ExerciseView}
use Rattle.tm_replay.specs.JointStates.{JointState}
use Rattle.tm_replay.specs.JointSteps.{IsJointRun}
use Rattle.tm_joint.specs.declared.refusals.Illegal.{Illegal}
use Rattle.tm_joint.specs.Refusals.{IsIllegal}

-- The list is a joint run.
abbrev pub Replays : ExerciseView → List Entry → Type 0
Replays x es = (joint : JointState) × IsJointRun x es joint

-- The events before one of the list are a joint run, after which that event is illegal, for this cause.
pub record IsFirstIllegal (x : ExerciseView) (es : List Entry) (i : Illegal) : Type 0 where
  pub prefix : List Entry
  pub entry : Entry
  pub back : List Entry
  pub parts : es ≡ prefix ++ entry ∷ back
  pub joint : JointState
  pub run : IsJointRun x prefix joint
  pub illegal : IsIllegal x joint entry i
