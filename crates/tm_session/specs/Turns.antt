-- The alone run of an exercise: one event a turn, under a schedule and a limit of calls per thread.
use Rattle.std.specs.Prelude.{◌≡◌, ℕ, ◌<◌, ◌≤◌, true, if◌then◌else◌, List, [], ◌∷◌, Some, MatchBool, slice_get}
use Rattle.std.specs.List.{AllByRecursion}
use Rattle.tm_base.specs.declared.operations.Op.{Op}
use Rattle.tm_base.specs.declared.operations.Op.TheVariants as op
use Rattle.tm_base.specs.declared.events.Entry.{Entry}
use Rattle.tm_base.specs.Runs.{Leads}
use Rattle.tm_text.specs.Exercises.{ExerciseView}
use Rattle.tm_programs.specs.Programs.{is_stopped}
use Rattle.tm_replay.specs.JointStates.{JointState, ThreadState, start}
use Rattle.tm_base.specs.Fits.{is_call}
use Rattle.tm_replay.specs.JointSteps.{JointStep}
use Rattle.tm_replay.specs.Bars.{bars_of, has_waiter, is_over, is_stuck, waited_objects}
use Rattle.tm_base.specs.declared.rules.Rules.{Rules}
use Rattle.tm_session.specs.Choices.{chosen_thread, draw_after}

-- Where the run stands: the joint state, the thread that moved last (0 where none has), the number that was
-- drawn last (the schedule's own where none was), and the objects that `main` still has to stop.
pub record RunState : Type 0 where
  pub joint : JointState
  pub last : ℕ
  pub draw : ℕ
  pub stops : List ℕ

abbrev pub first_run_state : ExerciseView → Rules → RunState
first_run_state x rules = record { joint = start x; last = 0; draw = rules.schedule; stops = [] }

-- The rules of a schedule and of a limit of calls.
abbrev pub rules_of : ℕ → ℕ → Rules
rules_of schedule limit = record { schedule = schedule; limit = limit }

-- The objects rise, and each has a waiter.
abbrev pub AreWaited : JointState → List ℕ → Type 0
AreWaited j [] = Unit {0}
AreWaited j (o ∷ os) = (has_waiter (slice_get j.objects o) ≡ true) × AllByRecursion (λ p. o < p) os × AreWaited j os

-- What `main` stops next: what it still has to stop, or in a stuck state each object that has a waiter, in
-- rising number.
abbrev pub due_by : List ℕ → JointState → List ℕ
due_by [] j = if is_stuck (bars_of j) then waited_objects j else []
due_by stops j = stops

abbrev pub due_stops : RunState → List ℕ
due_stops p = due_by p.stops p.joint

-- A thread makes no call beyond its limit, and its end is cut only after the reply `stopped` or at its
-- limit.
abbrev pub KeepsLimit : ℕ → ThreadState → Op → Type 0
KeepsLimit limit s (op.End cut) = cut ≡ true → MatchBool (is_stopped s.rest.last) (Unit {0}) (limit ≤ s.made)
KeepsLimit limit s o = is_call o ≡ true → s.made < limit

-- `main` stops the first of the objects that are due, before any thread moves.
pub record Halts (x : ExerciseView) (p : RunState) (due : ℕ) (others : List ℕ) (e : Entry) (q : RunState) : Type 0 where
  pub step : JointStep x p.joint e q.joint
  pub stop : e.op ≡ op.Stop
  pub object : e.object ≡ due
  pub stops : q.stops ≡ others
  pub last : q.last ≡ p.last
  pub draw : q.draw ≡ p.draw

-- The thread that the schedule chooses goes on, within its limit.
pub record Moves (x : ExerciseView) (rules : Rules) (p : RunState) (e : Entry) (q : RunState) : Type 0 where
  pub step : JointStep x p.joint e q.joint
  pub draw : q.draw ≡ draw_after rules.schedule p.draw
  pub chosen : chosen_thread rules.schedule (bars_of p.joint) p.last q.draw ≡ Some e.thread
  pub limit : KeepsLimit rules.limit step.happens.thread_state e.op
  pub stops : q.stops ≡ []
  pub last : q.last ≡ e.thread

-- The event is the run's next.
abbrev pub GoesBy : ExerciseView → Rules → RunState → List ℕ → Entry → RunState → Type 0
GoesBy x rules p [] e q = Moves x rules p e q
GoesBy x rules p (object ∷ stops) e q = Halts x p object stops e q

abbrev pub Goes : ExerciseView → Rules → RunState → Entry → RunState → Type 0
Goes x rules p e q = GoesBy x rules p (due_stops p) e q

-- The events are the alone run's first ones, and lead to this turn.
abbrev pub BeginsAlone : ExerciseView → Rules → List Entry → RunState → Type 0
BeginsAlone x rules es p = Leads (Goes x rules) (first_run_state x rules) es p

-- They are the whole alone run: every thread has ended.
pub record IsAloneRun (x : ExerciseView) (rules : Rules) (es : List Entry) (p : RunState) : Type 0 where
  pub run : BeginsAlone x rules es p
  pub over : is_over (bars_of p.joint) ≡ true
