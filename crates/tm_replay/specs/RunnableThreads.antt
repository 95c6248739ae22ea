-- What a runnable thread can do next, as a whole statement.
use Rattle.std.specs.Prelude.{◌≡◌, ℕ, ◌<◌, ◌≤◌, true, length, slice_get, Some}
use Rattle.tm_base.specs.declared.operations.Op.{Op}
use Rattle.tm_base.specs.Histories.{CanAnswer}
use Rattle.tm_text.specs.Exercises.{ExerciseView, IsWellFormed}
use Rattle.tm_replay.specs.JointStates.{JointState, ThreadState, ObjectState}
use Rattle.tm_replay.specs.JointSteps.{May}
use Rattle.tm_replay.specs.Bars.{bar_of, is_runnable}
use Rattle.tm_replay.specs.SoundStates.{IsSoundJoint}

-- The object is there, and has a lawful event with this thread and operation.
pub record IsAnswerable (j : JointState) (t object : ℕ) (o : Op) : Type 0 where
  pub object_state : ObjectState
  pub found : slice_get j.objects object ≡ Some object_state
  pub answers : CanAnswer object_state.view t o

-- In a sound joint state of a well-formed exercise, what a runnable program thread may do by its
-- phase and its program is on one of the exercise's objects, which can answer it.
abbrev pub RunnableThreadsCanMove : Type 0
RunnableThreadsCanMove = (x : ExerciseView) (j : JointState) (t : ℕ) (s : ThreadState) (object : ℕ) (o : Op)
    → IsWellFormed x → IsSoundJoint x j → 1 ≤ t → slice_get j.threads t ≡ Some s → is_runnable (bar_of j t) ≡ true → May x t s object o
    → (object < length x.objects) × IsAnswerable j t object o
