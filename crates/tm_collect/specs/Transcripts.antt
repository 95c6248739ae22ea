-- The rows of events.
use Rattle.std.specs.Prelude.{◌≡◌, ℕ, ◌+◌, List, [], ◌++◌}
use Rattle.tm_base.specs.declared.events.Entry.{Entry}
use Rattle.tm_base.specs.Runs.{Leads}
use Rattle.tm_text.specs.Exercises.{ExerciseView}
use Rattle.tm_timeline.specs.Rows.{row_of}
use Rattle.tm_replay.specs.JointStates.{JointState, start}
use Rattle.tm_replay.specs.JointSteps.{JointStep}
use Rattle.tm_replay.specs.Bars.{bars_of}
use Rattle.tm_joint.specs.Joints.{JointView}

-- A transcript of rows: the joint state that its events leave, how many events there were, and the rows.
pub record Transcript : Type 0 where
  pub joint : JointState
  pub count : ℕ
  pub rows : List ℕ

-- The replayer of the exercise, before any event.
abbrev pub first_joint : ExerciseView → JointView
first_joint x = record { exercise = x; state = start x; applied = 0; last_stamp = 0 }

-- The transcript that has these rows where the replayer stands.
abbrev pub transcript_at : JointView → List ℕ → Transcript
transcript_at v rows = record { joint = v.state; count = v.applied; rows = rows }

-- The next event adds its row, with its number and the bars of the joint state after it.
pub record AddsRow (x : ExerciseView) (p : Transcript) (e : Entry) (q : Transcript) : Type 0 where
  pub step : JointStep x p.joint e q.joint
  pub count : q.count ≡ p.count + 1
  pub rows : q.rows ≡ p.rows ++ row_of x q.count e (bars_of q.joint)

-- The transcript has the rows of these events.
abbrev pub AreRows : ExerciseView → List Entry → Transcript → Type 0
AreRows x es p = Leads (AddsRow x) (transcript_at (first_joint x) []) es p
