use Rattle.std.proofs.Common.{[], refl, arith}
use Rattle.tm_lines.specs.TextFaults.{said_words, text_lines}
use Rattle.tm_lines.proofs.NamesLemmas.{known_by-no_name}
use Rattle.tm_lines.proofs.checker.Checker.of_text.Goals as goal

pub invariant_of-result : goal.invariant_of-result
invariant_of-result c =
    (omega arith, known_by-no_name 0 (said_words (text_lines c.in_ok-names.names)) [] refl)
