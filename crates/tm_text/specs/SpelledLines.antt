-- How an exercise is spelled forwards: the lines that say it, in order of declaration.
use Rattle.std.specs.Prelude.{ℕ, pos, true, false, List, [], ◌∷◌, ◌++◌, flat_map, map}
use Rattle.tm_base.specs.declared.kinds.Kind.{Kind}
use Rattle.tm_base.specs.declared.kinds.Kind.TheVariants as kind
use Rattle.tm_programs.specs.declared.instructions.Instruction.{Instruction}
use Rattle.tm_programs.specs.declared.instructions.Instruction.TheVariants as instruction
use Rattle.tm_programs.specs.declared.instructions.Operand.{Operand}
use Rattle.tm_programs.specs.declared.instructions.Operand.TheVariants as operand
use Rattle.tm_lines.specs.declared.first_words.Declarator.TheVariants as declares
use Rattle.tm_lines.specs.declared.first_words.FirstWord.{FirstWord}
use Rattle.tm_lines.specs.declared.first_words.FirstWord.TheVariants as first
use Rattle.tm_text.specs.declared.exercises.Declaration.{Declaration}
use Rattle.tm_text.specs.declared.values.Value.{Value}
use Rattle.tm_text.specs.declared.values.Value.TheVariants as value
use Rattle.tm_text.specs.Exercises.{ExerciseView, instructions_of, name_of}

-- What a line says: its first word, and a value for each word after it. How a number is written makes no
-- difference.
pub record SpelledLine : Type 0 where
  pub first : FirstWord
  pub values : List Value

-- The line that declares an object with this name.
abbrev pub line_of_kind : List ℕ → Kind → SpelledLine
line_of_kind name kind.Mutex = record { first = first.Declares declares.Mutex; values = value.Name name ∷ [] }
line_of_kind name kind.Rw = record { first = first.Declares declares.Rwlock; values = value.Name name ∷ [] }
line_of_kind name kind.Sync = record { first = first.Declares declares.Sync; values = value.Name name ∷ [] }
line_of_kind name (kind.Sem start) =
    record { first = first.Declares declares.Sem; values = value.Name name ∷ value.Number (pos start) ∷ [] }
line_of_kind name (kind.Hoare conditions) = record {
  first = first.Declares declares.Monitor;
  values = value.Name name ∷ value.Hoare ∷ value.Number (pos conditions) ∷ [];
}
line_of_kind name (kind.Mesa conditions) = record {
  first = first.Declares declares.Monitor;
  values = value.Name name ∷ value.Mesa ∷ value.Number (pos conditions) ∷ [];
}
line_of_kind name (kind.Barrier parties) =
    record { first = first.Declares declares.Barrier; values = value.Name name ∷ value.Number (pos parties) ∷ [] }
line_of_kind name (kind.Async capacity) =
    record { first = first.Declares declares.Async; values = value.Name name ∷ value.Number (pos capacity) ∷ [] }
line_of_kind name (kind.Var start) =
    record { first = first.Declares declares.Var; values = value.Name name ∷ value.Number start ∷ [] }
line_of_kind name (kind.Thread own true) =
    record { first = first.Declares declares.Thread; values = value.Name name ∷ value.Held ∷ [] }
line_of_kind name (kind.Thread own false) =
    record { first = first.Declares declares.Thread; values = value.Name name ∷ [] }

-- What a call says after the name of its object.
abbrev pub values_of_operand : Operand → List Value
values_of_operand operand.Nothing = []
values_of_operand (operand.Condition c) = value.Number (pos c) ∷ []
values_of_operand (operand.Number k) = value.Number k ∷ []
values_of_operand (operand.Register r) = value.Register r ∷ []

-- The line of an `end`.
abbrev pub end_line : SpelledLine
end_line = record { first = first.End; values = [] }

-- The line of an instruction, where these objects are declared.
abbrev pub line_of_instruction : List Declaration → Instruction → SpelledLine
line_of_instruction ds (instruction.Call object code with) =
    record { first = first.Calls code; values = value.Name (name_of ds object) ∷ values_of_operand with }
line_of_instruction ds (instruction.Set r k) =
    record { first = first.Set; values = value.Register r ∷ value.Number k ∷ [] }
line_of_instruction ds (instruction.Inc r k) =
    record { first = first.Inc; values = value.Register r ∷ value.Number k ∷ [] }
line_of_instruction ds (instruction.Repeat turns) =
    record { first = first.Repeat; values = value.Number (pos turns) ∷ [] }
line_of_instruction ds (instruction.While r how k) =
    record { first = first.While; values = value.Register r ∷ value.Comparison how ∷ value.Number k ∷ [] }
line_of_instruction ds (instruction.If r how k) =
    record { first = first.If; values = value.Register r ∷ value.Comparison how ∷ value.Number k ∷ [] }
line_of_instruction ds instruction.End = end_line

-- The lines of a thread's program, up to its `end`.
abbrev pub lines_of_program : List Declaration → List Instruction → List SpelledLine
lines_of_program ds items = map (line_of_instruction ds) items ++ end_line ∷ []

-- The lines of the program of the thread that an object of this kind is the own object of, where it is one.
abbrev pub lines_behind : ExerciseView → Kind → List SpelledLine
lines_behind x (kind.Thread own held) = lines_of_program x.objects (instructions_of x own)
lines_behind x k = []

-- The line that declares the object, and behind that of a thread its program's.
abbrev pub lines_of_object : ExerciseView → Declaration → List SpelledLine
lines_of_object x d = line_of_kind d.name d.kind ∷ lines_behind x d.kind

-- What the lines of the exercise say, forwards: a line for each object in order of declaration, and behind the
-- line of a thread its program's lines up to its `end`.
abbrev pub spelled : ExerciseView → List SpelledLine
spelled x = flat_map (lines_of_object x) x.objects
