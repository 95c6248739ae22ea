-- What holds in every joint state of a legal run.
use Rattle.std.specs.Prelude.{◌≡◌, ℕ, suc, ◌<◌, ◌≤◌, Bool, true, false, ◌==◌, length, slice_get, Option, Some, None, IsSome}
use Rattle.tm_base.specs.declared.replies.Reply.{Reply}
use Rattle.tm_base.specs.States.{is_pending}
use Rattle.tm_laws.specs.Tidy.{IsSound}
use Rattle.tm_laws.specs.ThreadObjects.{has_begun, has_ended}
use Rattle.tm_text.specs.declared.exercises.Declaration.{Declaration}
use Rattle.tm_programs.specs.Calls.{AllCallsPass}
use Rattle.tm_text.specs.Exercises.{ExerciseView, is_call_on, own_of}
use Rattle.tm_replay.specs.declared.phases.Phase.{Phase}
use Rattle.tm_replay.specs.declared.phases.Phase.TheVariants as phase
use Rattle.tm_replay.specs.JointStates.{JointState, ThreadState, ObjectState}

-- The thread's call waits, or was granted and isn't resumed, at this object.
abbrev pub waits_at : Phase → ℕ → Bool
waits_at (phase.Waits at) object = at == object
waits_at p object = false

abbrev pub is_main : Phase → Bool
is_main phase.Main = true
is_main p = false

-- The thread has begun.
abbrev pub is_begun : Phase → Bool
is_begun phase.NotBegun = false
is_begun p = true

abbrev pub is_past : Phase → Bool
is_past (phase.Ended cut) = true
is_past p = false

-- A thread that has begun and is free has had the reply of `begin`, and one that hasn't begun has had none.
abbrev pub IsAnswered : Phase → Option Reply → Type 0
IsAnswered phase.NotBegun last = last ≡ None
IsAnswered phase.Free last = IsSome last
IsAnswered p last = Unit {0}

-- A thread waits at one of the objects.
abbrev pub IsAmong : Phase → ℕ → Type 0
IsAmong (phase.Waits object) objects = object < objects
IsAmong p objects = Unit {0}

-- The object is the one that the exercise declares, and sound.
pub record IsObjectStateOf (x : ExerciseView) (o : ℕ) (b : ObjectState) : Type 0 where
  pub declaration : Declaration
  pub found : slice_get x.objects o ≡ Some declaration
  pub kind : b.view.kind ≡ declaration.kind
  pub threads : b.view.threads ≡ length x.programs
  pub sound : IsSound b.view

-- The calls of what is left of the thread's program are ones that their objects have.
pub record IsThreadStateOf (x : ExerciseView) (t : ℕ) (s : ThreadState) : Type 0 where
  pub main : is_main s.phase ≡ (t == 0)
  pub calls : AllCallsPass (is_call_on x.objects) s.rest.program
  pub answered : IsAnswered s.phase s.rest.last
  pub among : IsAmong s.phase (length x.objects)

-- The joint state is sound: it has the exercise's objects and threads, each object is sound, each thread
-- waits exactly where its call is pending, and each thread object knows whether its thread has begun and
-- ended.
pub record IsSoundJoint (x : ExerciseView) (j : JointState) : Type 0 where
  pub object_count : length j.objects ≡ length x.objects
  pub thread_count : length j.threads ≡ suc (length x.programs)
  pub objects : (o : ℕ) (b : ObjectState) → slice_get j.objects o ≡ Some b → IsObjectStateOf x o b
  pub threads : (t : ℕ) (s : ThreadState) → slice_get j.threads t ≡ Some s → IsThreadStateOf x t s
  pub pending : (t o : ℕ) (s : ThreadState) (b : ObjectState) → 1 ≤ t → slice_get j.threads t ≡ Some s → slice_get j.objects o ≡ Some b → is_pending b.view.state t ≡ waits_at s.phase o
  pub life : (t : ℕ) (s : ThreadState) (b : ObjectState) → 1 ≤ t → slice_get j.threads t ≡ Some s → slice_get j.objects (own_of x.objects t) ≡ Some b
      → (has_begun b.view.state.kind_state ≡ is_begun s.phase) × (has_ended b.view.state.kind_state ≡ is_past s.phase)
