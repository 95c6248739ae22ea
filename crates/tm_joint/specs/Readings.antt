-- What a joint state says of a thread or an object, by its number.
use Rattle.std.specs.Prelude.{ℕ, Bool, false, length, Option, Some, None, slice_get}
use Rattle.tm_base.specs.Machines.{holds}
use Rattle.tm_base.specs.States.{queued}
use Rattle.tm_text.specs.Exercises.{ExerciseView, own_of}
use Rattle.tm_replay.specs.declared.phases.Phase.{Phase}
use Rattle.tm_replay.specs.declared.phases.Phase.TheVariants as phase
use Rattle.tm_replay.specs.JointStates.{JointState, ThreadState, ObjectState}
use Rattle.tm_joint.specs.declared.asked.Asked.{Asked}
use Rattle.tm_joint.specs.Asking.{asked_in}

abbrev pub asked_of_state : ℕ → Option ThreadState → Option Asked
asked_of_state own None = None
asked_of_state own (Some s) = asked_in own s.phase s.rest

-- What the thread may do next; nothing where it waits or has ended.
abbrev pub asked_at : ExerciseView → JointState → ℕ → Option Asked
asked_at x j t = asked_of_state (own_of x.objects t) (slice_get j.threads t)

abbrev pub waiters_of : Option ObjectState → ℕ
waiters_of None = 0
waiters_of (Some b) = length (queued b.view.state.kind_state)

-- How many calls wait ungranted at the object.
abbrev pub waiters_at : JointState → ℕ → ℕ
waiters_at j o = waiters_of (slice_get j.objects o)

abbrev pub stopped_of : Option ObjectState → Bool
stopped_of None = false
stopped_of (Some b) = b.view.state.stopped

-- The object was stopped.
abbrev pub stopped_at : JointState → ℕ → Bool
stopped_at j o = stopped_of (slice_get j.objects o)

abbrev pub holds_in : Option ObjectState → ℕ → Bool
holds_in None t = false
holds_in (Some b) t = holds b.view t

-- The thread holds the object.
abbrev pub holds_at : JointState → ℕ → ℕ → Bool
holds_at j o t = holds_in (slice_get j.objects o) t

abbrev pub waits_in_phase : Phase → Option ℕ
waits_in_phase (phase.Waits object) = Some object
waits_in_phase p = None

abbrev pub waits_of : Option ThreadState → Option ℕ
waits_of None = None
waits_of (Some s) = waits_in_phase s.phase

-- The object at which the thread's call waits, or was granted and isn't resumed.
abbrev pub waited_by : JointState → ℕ → Option ℕ
waited_by j t = waits_of (slice_get j.threads t)
