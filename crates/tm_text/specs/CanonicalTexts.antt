-- The canonical text of an exercise.
use Rattle.std.specs.Prelude.{◌≡◌, ℕ, ◌≤◌, int_le, Bool, true, ◌&&◌, List, [], ◌∷◌, ◌++◌, codes, flat_map, length}
use Rattle.std.specs.Fmt.{decimal, signed_decimal}
use Rattle.std.specs.List.{list_all}
use Rattle.tm_lines.specs.declared.limits.TheConstants.{GREATEST_NUMBER, LEAST_NUMBER, MOST_BYTES}
use Rattle.tm_lines.specs.FirstWords.{spelling}
use Rattle.tm_lines.specs.Numerals.{sign_of}
use Rattle.tm_text.specs.declared.values.Value.{Value}
use Rattle.tm_text.specs.declared.values.Value.TheVariants as value
use Rattle.tm_text.specs.Exercises.{ExerciseView, IsWellFormed}
use Rattle.tm_text.specs.SpelledLines.{SpelledLine, spelled}
use Rattle.tm_text.specs.Texts.{IsExercise}

-- The word that says a value; a number in its shortest form.
abbrev pub value_word : Value → List ℕ
value_word (value.Name name) = name
value_word (value.Number k) = signed_decimal k
value_word (value.Register r) = codes "r" ++ decimal r
value_word (value.Comparison how) = sign_of how
value_word value.Hoare = codes "hoare"
value_word value.Mesa = codes "mesa"
value_word value.Held = codes "held"

-- The words that say values, each after one space.
abbrev pub values_text : List Value → List ℕ
values_text values = flat_map (λ v. codes " " ++ value_word v) values

-- A line: its words with one space between, and LF.
abbrev pub line_text : SpelledLine → List ℕ
line_text line = spelling line.first ++ values_text line.values ++ 10 ∷ []

abbrev pub lines_text : List SpelledLine → List ℕ
lines_text lines = flat_map line_text lines

-- The canonical text of an exercise: the lines that spell it, in order of declaration, and no others.
abbrev pub canonical_text : ExerciseView → List ℕ
canonical_text x = lines_text (spelled x)

-- The value, if it is a number, is one of 64 bits.
abbrev pub is_long : Value → Bool
is_long (value.Number k) = int_le LEAST_NUMBER k && int_le k GREATEST_NUMBER
is_long v = true

-- Every number that these lines say is one of 64 bits.
abbrev pub are_long : List SpelledLine → Bool
are_long lines = list_all (λ line. list_all is_long line.values) lines

-- The canonical text of a well-formed exercise is a text of it, if its numbers are of 64 bits and the text is no
-- longer than a text may be.
abbrev pub CanonicalTextsReadBack : Type 0
CanonicalTextsReadBack =
    (x : ExerciseView) → IsWellFormed x → are_long (spelled x) ≡ true → length (canonical_text x) ≤ MOST_BYTES
    → IsExercise (canonical_text x) x
