-- The joint state of an exercise: all its objects and threads.
use Rattle.std.specs.Prelude.{ℕ, List, ◌∷◌, map, length}
use Rattle.tm_base.specs.declared.kinds.Kind.{Kind}
use Rattle.tm_base.specs.Machines.{ObjectView, fresh}
use Rattle.tm_programs.specs.declared.instructions.Instruction.{Instruction}
use Rattle.tm_text.specs.Exercises.{ExerciseView}
use Rattle.tm_programs.specs.Programs.{Program, Over, Rest, whole}
use Rattle.tm_programs.specs.Instructions.{program_of}
use Rattle.tm_replay.specs.declared.phases.Phase.{Phase}
use Rattle.tm_replay.specs.declared.phases.Phase.TheVariants as phase

-- Where a thread stands: its phase, the place of its next event, its last stamp (0 where it has none),
-- how many calls it has made, and what is left of its program.
pub record ThreadState : Type 0 where
  pub phase : Phase
  pub next : ℕ
  pub stamp : ℕ
  pub made : ℕ
  pub rest : Rest

-- Where an object stands: its machine, how many events it has, and its last stamp (0 where it has none).
pub record ObjectState : Type 0 where
  pub view : ObjectView
  pub at : ℕ
  pub stamp : ℕ

-- The objects from object 0, and the threads from `main`, which is thread 0.
pub record JointState : Type 0 where
  pub objects : List ObjectState
  pub threads : List ThreadState

-- A thread that has made no event.
abbrev pub first_thread_state : Phase → Program → ThreadState
first_thread_state p program = record { phase = p; next = 1; stamp = 0; made = 0; rest = whole program }

-- An object without events, for this number of threads.
abbrev pub first_object_state : ℕ → Kind → ObjectState
first_object_state threads k = record { view = fresh k threads; at = 0; stamp = 0 }

-- A thread that hasn't begun, with a program of these instructions.
abbrev pub unbegun : List Instruction → ThreadState
unbegun items = first_thread_state phase.NotBegun (program_of items)

-- Nothing has happened yet.
abbrev pub start : ExerciseView → JointState
start x = record {
  objects = map (λ d. first_object_state (length x.programs) d.kind) x.objects;
  threads = first_thread_state phase.Main Over ∷ map unbegun x.programs;
}
