-- Names of objects and threads.
use Rattle.std.specs.Prelude.{◌≡◌, ℕ, Bool, true, false, ◌&&◌, ◌||◌, ◌==◌, nat_le, List, [], ◌∷◌, length, ◌≤◌}
use Rattle.std.proofs.Common.{arith}
use Rattle.std.proofs.lemmas.Bool.Decides.{nat_tests}
use Rattle.std.specs.List.{list_all}

abbrev pub is_letter : ℕ → Bool
is_letter b = (nat_le 65 b && nat_le b 90) || (nat_le 97 b && nat_le b 122)

abbrev pub is_digit : ℕ → Bool
is_digit b = nat_le 48 b && nat_le b 57

-- A byte that a name may go on with: a letter, a digit or `_`.
abbrev pub is_word : ℕ → Bool
is_word b = is_letter b || is_digit b || b == 95

-- A letter and up to 15 letters, digits or underscores.
abbrev pub is_name : List ℕ → Bool
is_name [] = false
is_name (b ∷ bs) = is_letter b && list_all is_word bs && nat_le (length bs) 15

abbrev pub IsName : List ℕ → Type 0
IsName bytes = is_name bytes ≡ true

-- A name has at most 16 bytes.
pub is_short : (bytes : List ℕ) → IsName bytes → length bytes ≤ 16
is_short [] h = omega arith
is_short (b ∷ bs) h = grind (arith, nat_tests)
