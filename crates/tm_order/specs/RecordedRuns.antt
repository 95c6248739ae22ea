-- From what each thread and each object recorded, apart from each other, to one run.
use Rattle.std.specs.Prelude.{◌≡◌, ℕ, ◌<◌, ◌≤◌, List, [], ◌++◌, length, Contains}
use Rattle.tm_base.specs.declared.events.Entry.{Entry}
use Rattle.tm_base.specs.Orders.{StandsOnce, of_object, of_thread, KeepsPredecessors}
use Rattle.tm_text.specs.Exercises.{ExerciseView}
use Rattle.tm_replay.specs.JointStates.{JointState}
use Rattle.tm_replay.specs.JointSteps.{IsJointRun}
use Rattle.tm_order.specs.Ready.{NoneIsReady}
use Rattle.tm_order.specs.Records.{IsClocked, IsReached, IsRecorded}
use Rattle.tm_order.specs.Interleavings.{AreInRange}

-- The events are those that the threads made, and those that the objects have: each is one of its thread's
-- and one of its object's, and none of theirs is left out.
pub record AreRecorded (x : ExerciseView) (made seen : ℕ → List Entry) (es : List Entry) : Type 0 where
  pub range : AreInRange x es
  pub thread : (e : Entry) → Contains es e → Contains (made e.thread) e
  pub object : (e : Entry) → Contains es e → Contains (seen e.object) e
  pub threads : (t : ℕ) (e : Entry) → t ≤ length x.programs → Contains (made t) e → Contains es e
  pub objects : (o : ℕ) (e : Entry) → o < length x.objects → Contains (seen o) e → Contains es e

-- Nothing is held back, and the events shown are a joint run in which each thread's events and each object's
-- are what these recorded, in their order; it leaves each where they say.
pub record IsWholeRun (x : ExerciseView) (made seen : ℕ → List Entry) (shown held : List Entry) : Type 0 where
  pub nothing_held : held ≡ []
  pub joint : JointState
  pub run : IsJointRun x shown joint
  pub reached : IsReached x made seen joint
  pub threads : (t : ℕ) → t ≤ length x.programs → of_thread shown t ≡ made t
  pub objects : (o : ℕ) → o < length x.objects → of_object shown o ≡ seen o

-- What threads and objects recorded by Lamport's clocks, shown so that each event stands after its direct
-- predecessors until none is ready, is one joint run.
abbrev pub RecordsShowARun : Type 0
RecordsShowARun = (x : ExerciseView) (made seen : ℕ → List Entry) (shown held : List Entry) → IsRecorded x made seen → IsClocked made seen
    → AreRecorded x made seen (shown ++ held) → StandsOnce (shown ++ held) → KeepsPredecessors shown → NoneIsReady shown held
    → IsWholeRun x made seen shown held
