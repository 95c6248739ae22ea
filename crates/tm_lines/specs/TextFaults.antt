-- The first faulty line of a text, and what is wrong with it.
use Rattle.std.specs.Prelude.{ℕ, suc, not, nat_lt, if◌then◌else◌, List, [], ◌∷◌, map, filter, length, Option, Some, None}
use Rattle.tm_base.specs.declared.kinds.Kind.{Kind}
use Rattle.tm_lines.specs.declared.faults.Fault.{Fault}
use Rattle.tm_lines.specs.declared.faults.Fault.TheVariants as fault
use Rattle.tm_lines.specs.declared.faults.FaultyLine.{FaultyLine}
use Rattle.tm_lines.specs.declared.limits.TheConstants.{MOST_BYTES}
use Rattle.tm_lines.specs.Lines.{is_ignored, lines_of, without_cr, words_of}
use Rattle.tm_lines.specs.NamedLines.{kind_named}
use Rattle.tm_lines.specs.LineFaults.{Place, first_place, fault_of_line, place_by}

-- The lines of a text, each without its CR.
abbrev pub text_lines : List ℕ → List (List ℕ)
text_lines bytes = map without_cr (lines_of bytes)

-- The words of those that aren't ignored.
abbrev pub said_words : List (List ℕ) → List (List (List ℕ))
said_words lines = filter (λ ws. not (is_ignored ws)) (map words_of lines)

-- What the names of a text are.
abbrev pub named_in : List (List ℕ) → List ℕ → Option Kind
named_in lines name = kind_named (said_words lines) name

-- The fault of the line with this number, where there is one, and else that of a later line.
abbrev pub fault_or : ℕ → Option Fault → Option FaultyLine → Option FaultyLine
fault_or n (Some kind) later = Some (record { line = n; kind = kind })
fault_or n None later = later

-- The first faulty line of these, of which the first has this number and stands at this place. After the last
-- line no thread may be open.
abbrev pub first_fault_from : (List ℕ → Option Kind) → ℕ → Place → List (List ℕ) → Option FaultyLine
first_fault_from named n p [] = if p.inside then Some (record { line = n; kind = fault.NotEnded }) else None
first_fault_from named n p (line ∷ lines) =
    if is_ignored (words_of line) then first_fault_from named (suc n) p lines
    else fault_or n (fault_of_line named p line) (first_fault_from named (suc n) (place_by p (words_of line)) lines)

-- The first faulty line of a text, with what is wrong with it; the line is 0 where the text is too long.
abbrev pub first_fault : List ℕ → Option FaultyLine
first_fault bytes =
    if nat_lt MOST_BYTES (length bytes) then Some (record { line = 0; kind = fault.Size })
    else first_fault_from (named_in (text_lines bytes)) 1 first_place (text_lines bytes)
