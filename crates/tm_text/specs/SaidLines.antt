-- What the lines of a text say, forwards, and that they spell its exercise.
use Rattle.std.specs.Prelude.{◌≡◌, ℕ, ℤ, pos, if◌then◌else◌, List, [], ◌∷◌, codes, drop, filter_map, Option, Some, None}
use Rattle.std.specs.Option.{unwrap_or}
use Rattle.std.specs.Str.{bytes_eq}
use Rattle.tm_lines.specs.declared.first_words.FirstWord.{FirstWord}
use Rattle.tm_lines.specs.declared.first_words.Slot.{Slot}
use Rattle.tm_lines.specs.declared.first_words.Slot.TheVariants as slot
use Rattle.tm_lines.specs.FirstWords.{first_word_of, slots_of}
use Rattle.tm_lines.specs.NamedLines.{word_at}
use Rattle.tm_lines.specs.Numerals.{begins_with_r, integer_of}
use Rattle.tm_lines.specs.TextFaults.{first_fault, said_words, text_lines}
use Rattle.tm_text.specs.declared.values.Value.{Value}
use Rattle.tm_text.specs.declared.values.Value.TheVariants as value
use Rattle.tm_text.specs.Exercises.{ExerciseView, IsWellFormed}
use Rattle.tm_text.specs.SpelledLines.{SpelledLine, spelled}
use Rattle.tm_text.specs.Texts.{IsExercise, comparison_said, register_said}

-- The number that a word writes.
abbrev pub integer_said : List ℕ → ℤ
integer_said w = unwrap_or (integer_of w) (pos 0)

-- The value that a word says in its slot.
abbrev pub value_said : Slot → List ℕ → Value
value_said slot.NewName w = value.Name w
value_said slot.KnownName w = value.Name w
value_said (slot.Number least most) w = value.Number (integer_said w)
value_said slot.Condition w = value.Number (integer_said w)
value_said slot.Register w = value.Register (register_said w)
value_said slot.Value w =
    if begins_with_r w then value.Register (register_said w) else value.Number (integer_said w)
value_said slot.Comparison w = value.Comparison (comparison_said w)
value_said slot.Discipline w = if bytes_eq w (codes "hoare") then value.Hoare else value.Mesa
value_said slot.Held w = value.Held

-- What words say, each in its slot.
abbrev pub values_said : List Slot → List (List ℕ) → List Value
values_said [] ws = []
values_said (s ∷ ss) [] = []
values_said (s ∷ ss) (w ∷ ws) = value_said s w ∷ values_said ss ws

-- What a line says that begins with this first word, where it begins with one.
abbrev pub line_by : Option FirstWord → List (List ℕ) → Option SpelledLine
line_by None ws = None
line_by (Some f) ws = Some (record { first = f; values = values_said (slots_of f) (drop 1 ws) })

-- What a line of these words says.
abbrev pub line_said : List (List ℕ) → Option SpelledLine
line_said ws = line_by (first_word_of (word_at 0 ws)) ws

-- What the lines of a text say that aren't ignored.
abbrev pub lines_said : List ℕ → List SpelledLine
lines_said bytes = filter_map line_said (said_words (text_lines bytes))

-- The lines of a text of an exercise spell it; and a text without a faulty line is one of the well-formed
-- exercise that its lines spell.
pub record SpelledBothWays : Type 0 where
  pub spells : (bytes : List ℕ) (x : ExerciseView) → IsExercise bytes x → lines_said bytes ≡ spelled x
  pub is_spelled : (bytes : List ℕ) (x : ExerciseView) → IsWellFormed x → first_fault bytes ≡ None
      → lines_said bytes ≡ spelled x → IsExercise bytes x
