-- The words that say what is wrong.
use Rattle.std.specs.Prelude.{◌≡◌, ℕ, List, codes}
use Rattle.tm_lines.specs.declared.faults.Fault.{Fault}
use Rattle.tm_lines.specs.declared.faults.Fault.TheVariants as fault

abbrev pub fault_word : Fault → List ℕ
fault_word fault.Size = codes "size"
fault_word fault.Byte = codes "byte"
fault_word fault.Word = codes "word"
fault_word fault.Count = codes "count"
fault_word fault.Name = codes "name"
fault_word fault.Unknown = codes "unknown"
fault_word fault.Kind = codes "kind"
fault_word fault.Number = codes "number"
fault_word fault.Register = codes "register"
fault_word fault.Depth = codes "depth"
fault_word fault.Idle = codes "idle"
fault_word fault.Limit = codes "limit"
fault_word fault.NotEnded = codes "open"

-- No two kinds of fault have one word.
abbrev pub FaultWordsAreDistinct : Type 0
FaultWordsAreDistinct = (f g : Fault) → fault_word f ≡ fault_word g → f ≡ g
