-- How a replayer goes on along a list of events, and writes their rows.
use Rattle.std.specs.Prelude.{◌≡◌, ℕ, ◌<◌, ◌≤◌, List, [], ◌++◌, length, take, slice_get, Some}
use Rattle.tm_base.specs.declared.events.Entry.{Entry}
use Rattle.tm_base.specs.Runs.{Leads}
use Rattle.tm_text.specs.Exercises.{ExerciseView}
use Rattle.tm_joint.specs.declared.refusals.Illegal.{Illegal}
use Rattle.tm_joint.specs.Joints.{JointView}
use Rattle.tm_joint.specs.Refusals.{IsIllegal}
use Rattle.tm_collect.specs.Transcripts.{transcript_at, AddsRow}
use Rattle.tm_collect.specs.Sending.{Outlet, Sends, SendsPrefix}
use Rattle.tm_collect.specs.declared.writers.Stop.{Stop}
use Rattle.tm_collect.specs.declared.writers.Stop.TheVariants as stop

-- The event's thread and object are ones of the exercise.
pub record IsInRange (x : ExerciseView) (e : Entry) : Type 0 where
  pub thread : e.thread ≤ length x.programs
  pub object : e.object < length x.objects

-- The events of the list that come next were applied, in order, and these are their rows.
pub record Advances (x : ExerciseView) (es : List Entry) (v w : JointView) (rows : List ℕ) : Type 0 where
  pub news : List Entry
  pub shown : take w.applied es ≡ take v.applied es ++ news
  pub within : w.applied ≤ length es
  pub exercise : w.exercise ≡ v.exercise
  pub transcript : Leads (AddsRow x) (transcript_at v []) news (transcript_at w rows)

-- The next events were applied, and their rows sent.
pub record Shows (x : ExerciseView) (es : List Entry) (v w : JointView) (o p : Outlet) : Type 0 where
  pub rows : List ℕ
  pub advances : Advances x es v w rows
  pub sent : Sends o p rows

-- The same, where memory ran out: the first bytes of the rows were sent.
pub record BreaksOff (x : ExerciseView) (es : List Entry) (v w : JointView) (o p : Outlet) : Type 0 where
  pub rows : List ℕ
  pub advances : Advances x es v w rows
  pub sent : SendsPrefix o p rows

-- The event of the list that comes next is illegal.
pub record IsNextIllegal (x : ExerciseView) (es : List Entry) (w : JointView) (i : Illegal) : Type 0 where
  pub next : slice_get es w.applied ≡ Some i.entry
  pub illegal : IsIllegal x w.state i.entry i

-- Why it went no further.
abbrev pub StopsBy : ExerciseView → List Entry → (v w : JointView) → (o p : Outlet) → Stop → Type 0
StopsBy x es v w o p (stop.Illegal i) = Shows x es v w o p × IsNextIllegal x es w i
StopsBy x es v w o p stop.NoMemory = BreaksOff x es v w o p
