-- Why an event isn't a joint step, by the first cause.
use Rattle.std.specs.Prelude.{◌≡◌, ◌≢◌, ℕ, suc, max, true, false, ◌⊎◌, Some, None, slice_get}
use Rattle.tm_base.specs.declared.operations.Op.{Op}
use Rattle.tm_base.specs.declared.operations.Op.TheVariants as op
use Rattle.tm_base.specs.declared.replies.Reply.{Reply}
use Rattle.tm_base.specs.declared.events.Entry.{Entry}
use Rattle.tm_base.specs.States.{State, grant_of}
use Rattle.tm_base.specs.Machines.{ObjectView}
use Rattle.tm_base.specs.Histories.{Lawful}
use Rattle.tm_text.specs.Exercises.{ExerciseView, own_of}
use Rattle.tm_replay.specs.declared.phases.Phase.TheVariants as phase
use Rattle.tm_replay.specs.JointStates.{JointState, ThreadState, ObjectState}
use Rattle.tm_replay.specs.JointSteps.{JointStep, May}
use Rattle.tm_replay.specs.SoundStates.{is_past}
use Rattle.tm_joint.specs.declared.refusals.Cause.{Cause}
use Rattle.tm_joint.specs.declared.refusals.Cause.TheVariants as cause
use Rattle.tm_merge.specs.declared.holds.Missing.{Missing}
use Rattle.tm_merge.specs.declared.holds.Missing.TheVariants as missing
use Rattle.tm_joint.specs.declared.refusals.Illegal.{Illegal}
use Rattle.tm_joint.specs.Asking.{asked_in}

-- The stamp of the rule, by the last stamps of thread and object.
abbrev pub stamp_after : ThreadState → ObjectState → ℕ
stamp_after s b = suc (max s.stamp b.stamp)

-- The thread hasn't ended, and the event has the next place of its thread and of its object.
pub record IsInPlace (s : ThreadState) (b : ObjectState) (e : Entry) : Type 0 where
  pub goes_on : is_past s.phase ≡ false
  pub place : e.place ≡ s.next
  pub at : e.at ≡ suc b.at

-- The same, and its stamp is that of the rule.
pub record IsTimely (s : ThreadState) (b : ObjectState) (e : Entry) : Type 0 where
  pub in_place : IsInPlace s b e
  pub stamp : e.stamp ≡ stamp_after s b

-- The same, and its thread may do it.
pub record IsAllowed (x : ExerciseView) (s : ThreadState) (b : ObjectState) (e : Entry) : Type 0 where
  pub timely : IsTimely s b e
  pub may : May x e.thread s e.object e.op

-- The object has a lawful event with this thread, operation and reply.
pub record HasAnswer (h : ObjectView) (t : ℕ) (o : Op) (r : Reply) : Type 0 where
  pub state : State
  pub lawful : Lawful h t o r state

-- The place is the next one of the thread, and not the event's; or, where that is right, the same of the
-- object.
abbrev pub IsMissing : ThreadState → ObjectState → Entry → Missing → Type 0
IsMissing s b e (missing.Thread thread place) = (thread ≡ e.thread) × (place ≡ s.next) × (e.place ≢ place)
IsMissing s b e (missing.Object object at) = (e.place ≡ s.next) × (object ≡ e.object) × (at ≡ suc b.at) × (e.at ≢ at)

-- The event isn't `resume` at this object, or its thread's call isn't granted at the event's.
abbrev pub IsNoResume : ObjectState → Entry → ℕ → Type 0
IsNoResume b e object = ((e.object ≡ object) × (e.op ≡ op.Resume) → ⊥) ⊎ (grant_of b.view.state e.thread ≡ None)

-- This is the first cause why the thread in this state can't make the event on the object in this state.
abbrev pub IsCause : ExerciseView → ThreadState → ObjectState → Entry → Cause → Type 0
IsCause x s b e cause.Ended = is_past s.phase ≡ true
IsCause x s b e (cause.Place next) = (is_past s.phase ≡ false) × IsMissing s b e next
IsCause x s b e (cause.Stamp next) = IsInPlace s b e × (next ≡ stamp_after s b) × (e.stamp ≢ next)
IsCause x s b e (cause.Waiting object) = IsTimely s b e × (s.phase ≡ phase.Waits object) × IsNoResume b e object
IsCause x s b e (cause.NotAsked next) = IsTimely s b e × (asked_in (own_of x.objects e.thread) s.phase s.rest ≡ Some next)
    × (May x e.thread s e.object e.op → ⊥)
IsCause x s b e cause.StoppedAlready = IsAllowed x s b e × (e.op ≡ op.Stop) × (b.view.state.stopped ≡ true)
IsCause x s b e (cause.Reply r) = IsAllowed x s b e × HasAnswer b.view e.thread e.op r × (e.reply ≢ r)

-- The event can't happen in the joint state, and this is the first cause.
pub record Refuses (x : ExerciseView) (j : JointState) (e : Entry) (c : Cause) : Type 0 where
  pub thread_state : ThreadState
  pub thread : slice_get j.threads e.thread ≡ Some thread_state
  pub object_state : ObjectState
  pub object : slice_get j.objects e.object ≡ Some object_state
  pub first : IsCause x thread_state object_state e c

-- The event can happen in the joint state: there is a joint step that has it.
pub record IsLegal (x : ExerciseView) (j : JointState) (e : Entry) : Type 0 where
  pub thread_state : ThreadState
  pub thread : slice_get j.threads e.thread ≡ Some thread_state
  pub object_state : ObjectState
  pub object : slice_get j.objects e.object ≡ Some object_state
  pub allowed : IsAllowed x thread_state object_state e
  pub answer : HasAnswer object_state.view e.thread e.op e.reply

-- The refusal carries the event and the first cause.
abbrev pub IsIllegal : ExerciseView → JointState → Entry → Illegal → Type 0
IsIllegal x j e refusal = (refusal.entry ≡ e) × Refuses x j e refusal.cause

-- Where an event is refused no joint step has it, whatever state it would leave.
abbrev pub RefusedEventsAreNoSteps : Type 0
RefusedEventsAreNoSteps = (x : ExerciseView) (j k : JointState) (e : Entry) (refusal : Illegal) → IsIllegal x j e refusal → JointStep x j e k → ⊥

-- An event is refused for one cause: two refusals of it in the same state are equal.
abbrev pub CausesAreUnique : Type 0
CausesAreUnique = (x : ExerciseView) (j : JointState) (e : Entry) (a b : Illegal) → IsIllegal x j e a → IsIllegal x j e b → a ≡ b
