-- Exercises that are made part by part.
use Rattle.std.specs.Prelude.{ℕ, ◌+◌, Bool, false, ◌&&◌, nat_le, List, [], ◌∷◌, ◌++◌, length, map}
use Rattle.std.specs.List.{range_with_len}
use Rattle.tm_base.specs.Names.{is_name}
use Rattle.tm_base.specs.declared.kinds.Kind.{Kind}
use Rattle.tm_base.specs.declared.kinds.Kind.TheVariants as kind
use Rattle.tm_programs.specs.declared.instructions.Instruction.{Instruction}
use Rattle.tm_text.specs.Exercises.{ExerciseView}
use Rattle.tm_makers.specs.LineForms.{numbered}

-- What is added to a draft: an object that is no thread's own, or a thread with its program.
pub data Part : Type 0 where
  Object : (name : List ℕ) (kind : Kind) → Part
  Thread : (name : List ℕ) (program : List Instruction) → Part

-- Before the first part.
abbrev pub no_parts : ExerciseView
no_parts = record { objects = []; programs = [] }

-- The draft with one more part. A thread gets the next number.
abbrev pub with_part : ExerciseView → Part → ExerciseView
with_part x (Object name kind) =
    record { objects = x.objects ++ record { name = name; kind = kind } ∷ []; programs = x.programs }
with_part x (Thread name program) = record {
  objects = x.objects ++ record { name = name; kind = kind.Thread (length x.programs + 1) false } ∷ [];
  programs = x.programs ++ program ∷ [];
}

abbrev pub with_parts : ExerciseView → List Part → ExerciseView
with_parts x [] = x
with_parts x (p ∷ ps) = with_parts (with_part x p) ps

-- The word is a name, also with a number of two digits behind it.
abbrev pub is_short_name : List ℕ → Bool
is_short_name word = is_name word && nat_le (length word) 14

-- Objects of one kind whose names have the numbers from 0 on.
abbrev pub objects_of : List ℕ → ℕ → Kind → List Part
objects_of word count kind = map (λ i. Object (numbered word i) kind) (range_with_len 0 count)

-- Threads of one program whose names have the numbers from 1 on.
abbrev pub threads_of : List ℕ → ℕ → List Instruction → List Part
threads_of word count program = map (λ i. Thread (numbered word i) program) (range_with_len 1 count)
