-- What one thread does in a joint run, seen alone: a sequential process.
use Rattle.std.specs.Prelude.{◌≡◌, ℕ, zero, suc, List}
use Rattle.tm_base.specs.declared.events.Entry.{Entry}
use Rattle.tm_base.specs.Runs.{Leads}
use Rattle.tm_programs.specs.Programs.{Over}
use Rattle.tm_text.specs.Exercises.{ExerciseView, instructions_of}
use Rattle.tm_replay.specs.declared.phases.Phase.TheVariants as phase
use Rattle.tm_replay.specs.JointStates.{ThreadState, first_thread_state, unbegun}
use Rattle.tm_replay.specs.JointSteps.{May, stepped}

-- Where a thread stands before its first event: `main`, or a program thread that hasn't begun.
abbrev pub thread_at_start : ExerciseView → ℕ → ThreadState
thread_at_start x zero = first_thread_state phase.Main Over
thread_at_start x (suc t) = unbegun (instructions_of x (suc t))

-- The event is the thread's next one: it is by the thread, has its next place, and is one that the thread
-- may do.
pub record ThreadStep (x : ExerciseView) (t : ℕ) (s : ThreadState) (e : Entry) (s' : ThreadState) : Type 0 where
  pub thread : e.thread ≡ t
  pub place : e.place ≡ s.next
  pub may : May x t s e.object e.op
  pub after : s' ≡ stepped s e

-- The events, in this order, are what the thread may do one after another by its program and the replies,
-- and leave it in this state. Nothing is said of what the objects answer.
abbrev pub IsThreadRun : ExerciseView → ℕ → List Entry → ThreadState → Type 0
IsThreadRun x t es s = Leads (ThreadStep x t) (thread_at_start x t) es s
