-- The operation that a word spells.
use Rattle.std.proofs.Common.{◌≡◌, ◌≢◌, ℕ, List, Option, Some, None, refl, sym, ap, ◌∙◌}
use Rattle.std.specs.Prelude.{MatchOption}
use Rattle.std.specs.List.{find}
use Rattle.std.specs.Str.{bytes_eq}
use Rattle.std.proofs.lemmas.Bool.{cond-false, false_from_ne_true}
use Rattle.std.proofs.lemmas.Slice.Eq.{bytes_eq-Decides}
use Rattle.tm_base.specs.declared.opcodes.Opcode.{Opcode}
use Rattle.tm_base.specs.declared.opcodes.Opcode.TheVariants as opcode
use Rattle.tm_base.specs.Opcodes.{word_of}
use Rattle.tm_event_lines.specs.EventWords.{opcodes, operation_of}
use Rattle.std.specs.Prelude.{[], ◌∷◌}

-- an operation is read back from its word
pub operation_back : (c : Opcode) → operation_of (word_of c) ≡ Some c
operation_back opcode.Lock = refl
operation_back c = refl

none_found : (w : List ℕ) → ((c : Opcode) → word_of c ≢ w) → (cs : List Opcode) → find (λ c. bytes_eq (word_of c) w) cs ≡ None
none_found w none [] = refl
none_found w none (c ∷ cs) =
    cond-false (bytes_eq (word_of c) w) _ _ (false_from_ne_true (bytes_eq (word_of c) w) (λ e. none c ((bytes_eq-Decides (word_of c) w).0 e))) ∙ none_found w none cs

pub operation_found : (r : Option Opcode) (w : List ℕ) → MatchOption r ((c : Opcode) → word_of c ≢ w) (λ c. word_of c ≡ w) → r ≡ operation_of w
operation_found None w none = sym (none_found w none opcodes)
operation_found (Some c) w is = sym (operation_back c) ∙ ap operation_of is
