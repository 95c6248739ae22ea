-- What contracts see of a replayer.
use Rattle.std.specs.Prelude.{ℕ, ◌^◌, ◌≤◌}
use Rattle.tm_text.specs.Exercises.{ExerciseView, IsWellFormed}
use Rattle.tm_replay.specs.JointStates.{JointState}
use Rattle.tm_replay.specs.SoundStates.{IsSoundJoint}
use Rattle.tm_replay.specs.Work.{IsCounted}

-- The exercise, the joint state that the applied events leave, how many they are, and the greatest of
-- their stamps (0 where there is none).
pub record JointView : Type 0 where
  pub exercise : ExerciseView
  pub state : JointState
  pub applied : ℕ
  pub last_stamp : ℕ

-- What holds of every replayer: the exercise is well formed, and the joint state a sound one of it; no place
-- or stamp is greater than the number of events, nor is the greatest stamp; and that number is bounded.
pub record IsKept (v : JointView) : Type 0 where
  pub formed : IsWellFormed v.exercise
  pub sound : IsSoundJoint v.exercise v.state
  pub counted : IsCounted v.applied v.state
  pub few : v.applied ≤ 2 ^ 62
  pub stamp : v.last_stamp ≤ v.applied
