-- The exercise of a text: what its lines say, where none of them is faulty.
use Rattle.std.specs.Prelude.{◌≡◌, ℕ, zero, suc, ℤ, pos, if◌then◌else◌, List, [], ◌∷◌, Option, Some, None}
use Rattle.std.specs.Option.{unwrap_or}
use Rattle.std.specs.Str.{bytes_eq}
use Rattle.tm_programs.specs.declared.instructions.Comparison.{Comparison}
use Rattle.tm_programs.specs.declared.instructions.Comparison.TheVariants as comparison
use Rattle.tm_programs.specs.declared.instructions.Instruction.{Instruction}
use Rattle.tm_programs.specs.declared.instructions.Instruction.TheVariants as instruction
use Rattle.tm_programs.specs.declared.instructions.Operand.{Operand}
use Rattle.tm_programs.specs.declared.instructions.Operand.TheVariants as operand
use Rattle.tm_lines.specs.declared.first_words.Declarator.{Declarator}
use Rattle.tm_lines.specs.declared.first_words.Declarator.TheVariants as declares
use Rattle.tm_lines.specs.declared.first_words.FirstWord.{FirstWord}
use Rattle.tm_lines.specs.declared.first_words.FirstWord.TheVariants as first
use Rattle.tm_lines.specs.declared.first_words.Slot.{Slot}
use Rattle.tm_lines.specs.declared.first_words.Slot.TheVariants as slot
use Rattle.tm_lines.specs.declared.limits.TheConstants.{GREATEST_NUMBER, LEAST_NUMBER, MOST_TURNS}
use Rattle.tm_lines.specs.Numerals.{begins_with_r, comparison_of, register_of}
use Rattle.tm_lines.specs.FirstWords.{first_word_of, operand_slots}
use Rattle.tm_lines.specs.NamedLines.{declarator_of, kind_said, natural_or, number_or, word_at}
use Rattle.tm_lines.specs.TextFaults.{first_fault, said_words, text_lines}
use Rattle.tm_text.specs.declared.exercises.Declaration.{Declaration}
use Rattle.tm_text.specs.Exercises.{ExerciseView, IsWellFormed}

-- The number of the first object with the name, where the first of these has this number.
abbrev pub number_in : ℕ → List Declaration → List ℕ → Option ℕ
number_in o [] name = None
number_in o (d ∷ ds) name = if bytes_eq d.name name then Some o else number_in (suc o) ds name

-- The number of the object with the name, from 0, and 0 where there is none.
abbrev pub number_named : List Declaration → List ℕ → ℕ
number_named ds name = unwrap_or (number_in 0 ds name) 0

-- What words say that are no faults: a register, a number, a comparison.
abbrev pub register_said : List ℕ → ℕ
register_said w = unwrap_or (register_of w) 0

abbrev pub number_said : List ℕ → ℤ
number_said w = number_or (pos 0) LEAST_NUMBER GREATEST_NUMBER w

abbrev pub comparison_said : List ℕ → Comparison
comparison_said w = unwrap_or (comparison_of w) comparison.Equal

-- The operand that a word says in its slot.
abbrev pub operand_by : Slot → List ℕ → Operand
operand_by slot.Condition w = operand.Condition (natural_or 0 (pos 0) (pos 15) w)
operand_by slot.Register w = operand.Register (register_said w)
operand_by slot.Value w =
    if begins_with_r w then operand.Register (register_said w) else operand.Number (number_said w)
operand_by s w = operand.Nothing

-- The operand of a call with these slots, whose third word this is.
abbrev pub operand_said : List Slot → List ℕ → Operand
operand_said [] w = operand.Nothing
operand_said (s ∷ ss) w = operand_by s w

-- The instruction that a line with this first word says.
abbrev pub instruction_said : List Declaration → FirstWord → List (List ℕ) → Instruction
instruction_said ds (first.Declares d) ws = instruction.End
instruction_said ds (first.Calls c) ws =
    instruction.Call (number_named ds (word_at 1 ws)) c (operand_said (operand_slots c) (word_at 2 ws))
instruction_said ds first.Set ws = instruction.Set (register_said (word_at 1 ws)) (number_said (word_at 2 ws))
instruction_said ds first.Inc ws = instruction.Inc (register_said (word_at 1 ws)) (number_said (word_at 2 ws))
instruction_said ds first.Repeat ws = instruction.Repeat (natural_or 0 (pos 0) MOST_TURNS (word_at 1 ws))
instruction_said ds first.While ws =
    instruction.While (register_said (word_at 1 ws)) (comparison_said (word_at 2 ws))
    (number_said (word_at 3 ws))
instruction_said ds first.If ws =
    instruction.If (register_said (word_at 1 ws)) (comparison_said (word_at 2 ws))
    (number_said (word_at 3 ws))
instruction_said ds first.End ws = instruction.End

-- The number of the next thread, after one with this number or another object is declared.
abbrev pub next_thread : ℕ → Declarator → ℕ
next_thread t declares.Thread = suc t
next_thread t d = t

-- The objects with those of these lines behind the one that a line declares, where it declares one.
abbrev pub declared_by : Option Declarator → ℕ → List (List ℕ) → (ℕ → List Declaration) → List Declaration
declared_by None t ws later = later t
declared_by (Some d) t ws later =
    record { name = word_at 1 ws; kind = kind_said t d ws } ∷ later (next_thread t d)

-- The objects that lines declare, where the next thread has this number.
abbrev pub declarations_said : ℕ → List (List (List ℕ)) → List Declaration
declarations_said t [] = []
declarations_said t (ws ∷ lines) =
    declared_by (declarator_of (first_word_of (word_at 0 ws))) t ws (λ u. declarations_said u lines)

-- The programs with an instruction in front of the first.
abbrev pub put_instruction : Instruction → List (List Instruction) → List (List Instruction)
put_instruction i [] = []
put_instruction i (p ∷ ps) = (i ∷ p) ∷ ps

-- The programs that lines spell, the first of which begins with this first word: the `end` of a thread begins
-- the next one's, and each other line of a thread is an instruction of the first. So many blocks are open.
abbrev pub programs_by : List Declaration → Option FirstWord → ℕ → List (List ℕ)
    → (ℕ → List (List Instruction)) → List (List Instruction)
programs_by ds None depth ws later = later depth
programs_by ds (Some (first.Declares d)) depth ws later = later 0
programs_by ds (Some first.End) zero ws later = [] ∷ later 0
programs_by ds (Some first.End) (suc depth) ws later = put_instruction instruction.End (later depth)
programs_by ds (Some first.Repeat) depth ws later =
    put_instruction (instruction_said ds first.Repeat ws) (later (suc depth))
programs_by ds (Some first.While) depth ws later =
    put_instruction (instruction_said ds first.While ws) (later (suc depth))
programs_by ds (Some first.If) depth ws later =
    put_instruction (instruction_said ds first.If ws) (later (suc depth))
programs_by ds (Some f) depth ws later = put_instruction (instruction_said ds f ws) (later depth)

-- The programs of the threads, in the order of their `thread` lines; inside a thread the first is what is
-- left of its program, in which so many blocks are open.
abbrev pub programs_said : List Declaration → ℕ → List (List (List ℕ)) → List (List Instruction)
programs_said ds depth [] = []
programs_said ds depth (ws ∷ lines) =
    programs_by ds (first_word_of (word_at 0 ws)) depth ws (λ d. programs_said ds d lines)

-- The exercise that lines say, as words.
abbrev pub exercise_said : List (List (List ℕ)) → ExerciseView
exercise_said lines = record {
  objects = declarations_said 1 lines;
  programs = programs_said (declarations_said 1 lines) 0 lines;
}

-- The exercise of a text.
abbrev pub exercise_of : List ℕ → ExerciseView
exercise_of bytes = exercise_said (said_words (text_lines bytes))

-- The bytes are a text of the exercise: no line is faulty, and the exercise is what the lines say.
pub record IsExercise (bytes : List ℕ) (x : ExerciseView) : Type 0 where
  pub faultless : first_fault bytes ≡ None
  pub said : x ≡ exercise_of bytes

-- A text is that of one exercise at most, and of one exactly where no line is faulty.
abbrev pub OneExercise : Type 0
OneExercise =
    (bytes : List ℕ) (x y : ExerciseView) → IsExercise bytes x → IsExercise bytes y → x ≡ y

-- The exercise of a text is well formed.
abbrev pub ExercisesAreWellFormed : Type 0
ExercisesAreWellFormed = (bytes : List ℕ) (x : ExerciseView) → IsExercise bytes x → IsWellFormed x
