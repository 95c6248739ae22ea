-- What fixes a joint step, as a whole statement.
use Rattle.std.specs.Prelude.{◌≡◌}
use Rattle.tm_base.specs.declared.events.Entry.{Entry}
use Rattle.tm_text.specs.Exercises.{ExerciseView}
use Rattle.tm_replay.specs.JointStates.{JointState}
use Rattle.tm_replay.specs.JointSteps.{JointStep}

-- Thread, object and operation fix the event that happens, and the joint state after it, whatever the programs
-- of the two exercises are.
abbrev pub StepsAreDetermined : Type 0
StepsAreDetermined = (x y : ExerciseView) (j k m : JointState) (e f : Entry) → JointStep x j e k → JointStep y j f m
    → e.thread ≡ f.thread → e.object ≡ f.object → e.op ≡ f.op → (e ≡ f) × (k ≡ m)
