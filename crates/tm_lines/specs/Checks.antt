-- A text whose lines are looked at one after the other, and what each is.
use Rattle.std.specs.Prelude.{◌≡◌, ℕ, ◌+◌, Bool, true, false, List, [], ◌∷◌, Option, Some, None}
use Rattle.tm_lines.specs.declared.saying.Line.{Line}
use Rattle.tm_lines.specs.declared.saying.Line.TheVariants as line
use Rattle.tm_lines.specs.declared.faults.FaultyLine.{FaultyLine}
use Rattle.tm_lines.specs.Lines.{is_ignored, words_of}
use Rattle.tm_lines.specs.LineFaults.{Place, fault_of_line, first_place, place_by}
use Rattle.tm_lines.specs.Saying.{IsSaid}
use Rattle.tm_lines.specs.TextFaults.{first_fault_from, named_in, text_lines}

-- How far a text was looked at: its bytes, the number and the place of the next line, and the bytes that are
-- left.
pub record Check : Type 0 where
  pub text : List ℕ
  pub number : ℕ
  pub place : Place
  pub rest : List ℕ

abbrev pub is_empty : List ℕ → Bool
is_empty [] = true
is_empty (b ∷ bs) = false

-- Before the first line.
abbrev pub before : List ℕ → Check
before text = record { text = text; number = 1; place = first_place; rest = text }

-- The first faulty line of those that are left.
abbrev pub fault_left : Check → Option FaultyLine
fault_left k = first_fault_from (named_in (text_lines k.text)) k.number k.place (text_lines k.rest)

-- What the line is that stands at this place and has this number, in a text of these lines: ignored; faulty; or
-- one that says something, after which comes another place.
abbrev pub IsLine : List (List ℕ) → ℕ → Place → List ℕ → Line → Place → Type 0
IsLine lines n p bytes line.Ignored after = (is_ignored (words_of bytes) ≡ true) × (after ≡ p)
IsLine lines n p bytes (line.Said said) after =
    (is_ignored (words_of bytes) ≡ false) × (fault_of_line (named_in lines) p bytes ≡ None) × IsSaid lines said (words_of bytes)
    × (after ≡ place_by p (words_of bytes))
IsLine lines n p bytes (line.Faulty fault) after =
    (is_ignored (words_of bytes) ≡ false) × (fault_of_line (named_in lines) p bytes ≡ Some fault.kind) × (fault.line ≡ n)

-- The first fault of those that were left: that of the line, where it has one, and else the first of those that
-- are left after it.
abbrev pub fault_after : Line → Check → Option FaultyLine
fault_after (line.Faulty fault) k = Some fault
fault_after other k = fault_left k

-- The next line was looked at, and is this.
pub record Follows (old : Check) (line : Line) (new : Check) : Type 0 where
  pub bytes : List ℕ
  pub lines : text_lines old.rest ≡ bytes ∷ text_lines new.rest
  pub is_line : IsLine (text_lines old.text) old.number old.place bytes line new.place
  pub text : new.text ≡ old.text
  pub number : new.number ≡ old.number + 1
  pub fault : fault_left old ≡ fault_after line new
