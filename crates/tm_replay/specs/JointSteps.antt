-- The joint step: one event, made by one thread on one object. It is the interleaving of sequential
-- processes, and knows no lock, schedule or limit.
use Rattle.std.specs.Prelude.{◌≡◌, ℕ, suc, ◌+◌, max, Bool, true, false, if◌then◌else◌, ◌⊎◌, List, slice_get, slice_set, Option, Some, None}
use Rattle.tm_base.specs.declared.operations.Op.{Op}
use Rattle.tm_base.specs.declared.operations.Op.TheVariants as op
use Rattle.tm_base.specs.declared.replies.Reply.{Reply}
use Rattle.tm_base.specs.declared.replies.Reply.TheVariants as reply
use Rattle.tm_base.specs.declared.asks.Ask.{Ask}
use Rattle.tm_base.specs.declared.asks.Ask.TheVariants as ask
use Rattle.tm_base.specs.declared.events.Entry.{Entry}
use Rattle.tm_base.specs.Fits.{is_call}
use Rattle.tm_base.specs.States.{State}
use Rattle.tm_base.specs.Machines.{changed}
use Rattle.tm_base.specs.Histories.{Lawful}
use Rattle.tm_base.specs.Runs.{Leads}
use Rattle.tm_text.specs.Exercises.{ExerciseView, own_of}
use Rattle.tm_programs.specs.Programs.{Rest, answered, asked_of}
use Rattle.tm_replay.specs.declared.phases.Phase.{Phase}
use Rattle.tm_replay.specs.declared.phases.Phase.TheVariants as phase
use Rattle.tm_replay.specs.JointStates.{JointState, ThreadState, ObjectState, start}

-- What a free thread may do whose program asks this: the call, or an end that cuts it short; where the
-- program is over, its end; and where it asks nothing at all, an end that is cut.
abbrev pub MayAsk : ℕ → Option Ask → ℕ → Op → Type 0
MayAsk own (Some (ask.Call object o')) object' o = ((object' ≡ object) × (o ≡ o')) ⊎ ((object' ≡ own) × (o ≡ op.End true))
MayAsk own (Some ask.Over) object' o = (object' ≡ own) × (o ≡ op.End false)
MayAsk own None object' o = (object' ≡ own) × (o ≡ op.End true)

-- What a thread may do by its phase. A thread that isn't begun begins, on its own object; a free one
-- goes on with what its program asks; one that waits resumes where it waits; one that has ended does
-- nothing; and `main` stops objects.
abbrev pub MayIn : ℕ → Phase → Rest → ℕ → Op → Type 0
MayIn own phase.Main rest object o = o ≡ op.Stop
MayIn own phase.NotBegun rest object o = (object ≡ own) × (o ≡ op.Begin)
MayIn own phase.Free rest object o = MayAsk own (asked_of rest) object o
MayIn own (phase.Waits at) rest object o = (object ≡ at) × (o ≡ op.Resume)
MayIn own (phase.Ended cut) rest object o = ⊥

abbrev pub May : ExerciseView → ℕ → ThreadState → ℕ → Op → Type 0
May x t s object o = MayIn (own_of x.objects t) s.phase s.rest object o

-- The phase after an event: a call that waits makes the thread wait at the object, `end` ends it, and
-- after any other reply it is free.
abbrev pub phase_by : Op → Reply → ℕ → Phase
phase_by (op.End cut) r object = phase.Ended cut
phase_by o reply.Wait object = phase.Waits object
phase_by o r object = phase.Free

abbrev pub phase_after : Phase → Entry → Phase
phase_after phase.Main e = phase.Main
phase_after p e = phase_by e.op e.reply e.object

-- The reply is the final one of `begin` or of a call: it doesn't wait, and the event is neither `end` nor
-- `stop`.
abbrev pub is_final : Op → Reply → Bool
is_final (op.End cut) r = false
is_final op.Stop r = false
is_final o reply.Wait = false
is_final o r = true

-- What is left of the program: a final reply answers it.
abbrev pub rest_by : Op → Reply → Rest → Rest
rest_by o r rest = if is_final o r then answered rest r else rest

-- Where the thread stands after its event.
abbrev pub stepped : ThreadState → Entry → ThreadState
stepped s e = record {
  phase = phase_after s.phase e;
  next = e.place + 1;
  stamp = e.stamp;
  made = s.made + (if is_call e.op then 1 else 0);
  rest = rest_by e.op e.reply s.rest;
}

-- Where the object stands after its event, which leaves its machine in this state.
abbrev pub entered : ObjectState → Entry → State → ObjectState
entered b e s' = record { view = changed b.view s'; at = e.at; stamp = e.stamp }

-- From joint state `j` the event happens, and leaves `k`: it has the next place of its thread and
-- of its object, its stamp is 1 plus the greater of their last stamps, and the object's machine
-- answers so.
pub record Happens (j : JointState) (e : Entry) (k : JointState) : Type 0 where
  pub thread_state : ThreadState
  pub thread : slice_get j.threads e.thread ≡ Some thread_state
  pub object_state : ObjectState
  pub object : slice_get j.objects e.object ≡ Some object_state
  pub place : e.place ≡ thread_state.next
  pub at : e.at ≡ suc object_state.at
  pub stamp : e.stamp ≡ suc (max thread_state.stamp object_state.stamp)
  pub state : State
  pub lawful : Lawful object_state.view e.thread e.op e.reply state
  pub objects : k.objects ≡ slice_set j.objects e.object (entered object_state e state)
  pub threads : k.threads ≡ slice_set j.threads e.thread (stepped thread_state e)

-- The event happens, and its thread may do it.
pub record JointStep (x : ExerciseView) (j : JointState) (e : Entry) (k : JointState) : Type 0 where
  pub happens : Happens j e k
  pub may : May x e.thread happens.thread_state e.object e.op

-- The events are a legal joint run of the exercise, which leaves this joint state.
abbrev pub IsJointRun : ExerciseView → List Entry → JointState → Type 0
IsJointRun x es j = Leads (JointStep x) (start x) es j
