-- The joint runs as interleavings of sequential processes: what threads and objects, each alone, make of a
-- list of events, without any joint step.
use Rattle.std.specs.Prelude.{◌≡◌, ◌<◌, ◌≤◌, ◌↔◌, List, length, Contains}
use Rattle.tm_base.specs.declared.events.Entry.{Entry}
use Rattle.tm_base.specs.Orders.{of_object, of_thread}
use Rattle.tm_text.specs.Exercises.{ExerciseView}
use Rattle.tm_replay.specs.JointStates.{JointState}
use Rattle.tm_replay.specs.JointSteps.{IsJointRun}
use Rattle.tm_order.specs.Records.{IsClocked, IsReached}

-- The events are by threads of the exercise, or `main`, and on its objects.
abbrev pub AreInRange : ExerciseView → List Entry → Type 0
AreInRange x es = (e : Entry) → Contains es e → (e.thread ≤ length x.programs) × (e.object < length x.objects)

-- The list interleaves runs of the threads, and objects allow it: in the list's order the events of each thread
-- are a run of that thread, those of each object are a legal history of it, and the stamps are Lamport's
-- clocks. The joint state has all threads and objects where their own events leave them.
pub record IsInterleaving (x : ExerciseView) (es : List Entry) (j : JointState) : Type 0 where
  pub range : AreInRange x es
  pub reached : IsReached x (of_thread es) (of_object es) j
  pub clocked : IsClocked (of_thread es) (of_object es)

-- The joint runs are these interleavings.
abbrev pub JointRunsAreInterleavings : Type 0
JointRunsAreInterleavings = (x : ExerciseView) (es : List Entry) (j : JointState) → IsJointRun x es j ↔ IsInterleaving x es j

-- A joint run leaves one joint state.
abbrev pub JointRunsLeaveOneState : Type 0
JointRunsLeaveOneState = (x : ExerciseView) (es : List Entry) (j k : JointState) → IsJointRun x es j → IsJointRun x es k → j ≡ k
