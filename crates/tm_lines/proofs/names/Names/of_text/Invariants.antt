use Rattle.std.proofs.Common.{◌≡◌, ◌≤◌, ◌+◌, ℕ, List, length}
use Rattle.std.specs.HashMap as hash
use Rattle.std.specs.Option.{option_or}
use Rattle.std.specs.Str.{bytes_eq}
use Rattle.tm_lines.specs.KnownNames.{known_by, known_in}
use Rattle.tm_lines.specs.TextFaults.{said_words, text_lines}
use Rattle.tm_lines.proofs.names.Names.of_text.Given as goal

abbrev pub invariant-loop-rest : goal.invariant-loop-rest
invariant-loop-rest l = record {
  known : (name : List ℕ) → option_or (hash.get_by (λ k. bytes_eq name k.now) l.known) (known_by l.number (said_words (text_lines l.rest)) name) ≡ known_in (text_lines l.text) name;
  few : l.number + length l.rest ≤ length l.text;
}

abbrev pub decreases-loop-rest : goal.decreases-loop-rest
decreases-loop-rest l = length l.rest
