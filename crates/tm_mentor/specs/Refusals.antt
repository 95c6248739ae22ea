-- What a refusal says.
use Rattle.std.specs.Prelude.{ℕ, List, [], ◌∷◌, ◌++◌, codes}
use Rattle.std.specs.Fmt.{decimal}
use Rattle.tm_lines.specs.FaultWords.{fault_word}
use Rattle.tm_mentor.specs.declared.refusals.Refusal.{Refusal}
use Rattle.tm_mentor.specs.declared.refusals.Refusal.TheVariants.{Usage, Text, NoTrace, ReadFault}

-- The line that says what is wrong with a text: the number of one of its lines, and the word of its fault.
abbrev pub fault_line : ℕ → List ℕ → List ℕ
fault_line line word = codes "mentor: line " ++ decimal line ++ codes ": " ++ word ++ 10 ∷ []

-- Its line.
abbrev pub line_of : Refusal → List ℕ
line_of Usage = codes "mentor: usage" ++ 10 ∷ []
line_of (Text fault) = fault_line fault.line (fault_word fault.kind)
line_of (NoTrace line) = fault_line line (codes "trace")
line_of ReadFault = codes "mentor: read fault" ++ 10 ∷ []

-- The status of a command that wrote the line.
abbrev pub status_of : Refusal → ℕ
status_of Usage = 2
status_of (Text fault) = 3
status_of (NoTrace line) = 3
status_of ReadFault = 4
