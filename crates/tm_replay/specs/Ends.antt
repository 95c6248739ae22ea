-- How a run ends: which runs have ended, and what their ends are called.
use Rattle.std.specs.Prelude.{◌≡◌, ℕ, ◌≤◌, Bool, true, false, not, ◌&&◌, ◌==◌, ◌⊎◌, List, [], ◌∷◌, ◌++◌, filter, slice_get, Option, Some, None}
use Rattle.tm_base.specs.declared.asks.Ask.{Ask}
use Rattle.tm_base.specs.declared.asks.Ask.TheVariants as ask
use Rattle.tm_base.specs.declared.ends.End.{End}
use Rattle.tm_base.specs.declared.ends.End.TheVariants as end
use Rattle.tm_base.specs.declared.events.Entry.{Entry}
use Rattle.tm_base.specs.declared.operations.Op.TheVariants as op
use Rattle.tm_text.specs.Exercises.{ExerciseView}
use Rattle.tm_programs.specs.Programs.{asked_of, is_stopped}
use Rattle.tm_replay.specs.declared.phases.Phase.{Phase}
use Rattle.tm_replay.specs.declared.phases.Phase.TheVariants as phase
use Rattle.tm_replay.specs.JointStates.{JointState, ThreadState}
use Rattle.tm_replay.specs.JointSteps.{IsJointRun}
use Rattle.tm_replay.specs.Bars.{bars_of, has_waiter, is_over, is_stuck, threads_of}

-- The thread ended with `cut`.
abbrev pub is_cut_phase : Phase → Bool
is_cut_phase (phase.Ended cut) = cut
is_cut_phase p = false

-- The same of a thread in a joint state, if it is there.
abbrev pub is_cut : Option ThreadState → Bool
is_cut None = false
is_cut (Some s) = is_cut_phase s.phase

-- What a program asks is one more call.
abbrev pub is_more : Option Ask → Bool
is_more (Some (ask.Call object o)) = true
is_more a = false

-- The thread was cut by its limit: it ended with `cut` when it had made as many calls as the limit allows,
-- its last reply isn't `stopped`, and its program asks one more call.
abbrev pub is_cut_by_limit : ℕ → Option ThreadState → Bool
is_cut_by_limit limit None = false
is_cut_by_limit limit (Some s) = is_cut_phase s.phase && s.made == limit && not (is_stopped s.rest.last) && is_more (asked_of s.rest)

-- A prefix of these events leaves a stuck joint state, in which the object has a waiter.
pub record WasStuck (x : ExerciseView) (events : List Entry) (object : ℕ) : Type 0 where
  pub prefix : List Entry
  pub back : List Entry
  pub parts : events ≡ prefix ++ back
  pub joint : JointState
  pub run : IsJointRun x prefix joint
  pub stuck : is_stuck (bars_of joint) ≡ true
  pub waited : has_waiter (slice_get joint.objects object) ≡ true

-- The events are an ended run of the exercise under the limit of calls: a legal joint run in which every
-- thread has ended, and none made more calls than the limit; a thread ended with `cut` only after the reply
-- `stopped` or by its limit; and before each `stop` there was a stuck joint state in which the stopped
-- object had a waiter.
pub record IsEndedRun (x : ExerciseView) (limit : ℕ) (es : List Entry) : Type 0 where
  pub joint : JointState
  pub run : IsJointRun x es joint
  pub over : is_over (bars_of joint) ≡ true
  pub within : (t : ℕ) (s : ThreadState) → slice_get joint.threads t ≡ Some s → s.made ≤ limit
  pub cut : (t : ℕ) (s : ThreadState) → slice_get joint.threads t ≡ Some s → is_cut_phase s.phase ≡ true
      → (is_stopped s.rest.last ≡ true) ⊎ (is_cut_by_limit limit (Some s) ≡ true)
  pub stops : (before later : List Entry) (e : Entry) → es ≡ before ++ e ∷ later → e.op ≡ op.Stop → WasStuck x before e.object

-- The program threads that pass a test, in rising number.
abbrev pub threads_where : (Option ThreadState → Bool) → JointState → List ℕ
threads_where test j = filter (λ t. test (slice_get j.threads t)) (threads_of j)

-- The end, by the threads that were cut by their limit and those that ended with `cut`.
abbrev pub end_by : List ℕ → List ℕ → End
end_by [] [] = end.Done
end_by [] ts = end.Stuck
end_by ts cut = end.Budget

-- The end of a run that leaves this joint state, under the limit: `Budget` where a thread was cut by its
-- limit, else `Stuck` where a thread ended with `cut`, else `Done`.
abbrev pub end_of : ℕ → JointState → End
end_of limit j = end_by (threads_where (is_cut_by_limit limit) j) (threads_where is_cut j)

-- The threads that are named for an end: those cut by their limit for `Budget`, those that ended with `cut`
-- for `Stuck`, and none for `Done`.
abbrev pub named_by : End → ℕ → JointState → List ℕ
named_by end.Done limit j = []
named_by end.Stuck limit j = threads_where is_cut j
named_by end.Budget limit j = threads_where (is_cut_by_limit limit) j

-- The threads that the last line names, by the limit and the joint state that the run leaves.
abbrev pub named_of : ℕ → JointState → List ℕ
named_of limit j = named_by (end_of limit j) limit j

-- The events are an ended run under the limit, with this end and these threads named.
pub record EndsAs (x : ExerciseView) (limit : ℕ) (es : List Entry) (how : End) (named : List ℕ) : Type 0 where
  pub run : IsEndedRun x limit es
  pub ends : how ≡ end_of limit run.joint
  pub names : named ≡ named_of limit run.joint
