-- Numbers that words write.
use Rattle.std.proofs.Common.{◌≡◌, ℕ, ◌+◌, ◌-◌, ◌*◌, ◌^◌, ◌<◌, ◌≤◌, true, List, [], ◌∷◌, length, Some, None, refl, arith}
use Rattle.std.proofs.lemmas.Bool.{cond_both}
use Rattle.tm_base.specs.Names.{is_digit}
use Rattle.tm_lines.specs.Numerals.{digits_after, natural_of}

-- more digits make no smaller number
pub digits_after-grows : (v : ℕ) (ds : List ℕ) (n : ℕ) → digits_after v ds ≡ Some n → v ≤ n
digits_after-grows v [] n e = let same : v ≡ n = cc in omega arith
digits_after-grows v (b ∷ ds) n e =
    cond_both (is_digit b) (digits_after (10 * v + (b - 48)) ds) None (λ r. r ≡ Some n → v ≤ n)
    (λ d h. let more = digits_after-grows (10 * v + (b - 48)) ds n h in omega arith)
    (λ d h. absurd (cc)) e

-- the next byte is no digit, or makes the number too great
pub digits_after-too_great : (v b : ℕ) (ds : List ℕ) → (is_digit b ≡ true → 2 ^ 64 ≤ 10 * v + (b - 48)) → (n : ℕ) → digits_after v (b ∷ ds) ≡ Some n → 2 ^ 64 ≤ n
digits_after-too_great v b ds great n e =
    cond_both (is_digit b) (digits_after (10 * v + (b - 48)) ds) None (λ r. r ≡ Some n → 2 ^ 64 ≤ n)
    (λ d h. let more = digits_after-grows (10 * v + (b - 48)) ds n h in let least = great d in omega arith)
    (λ d h. absurd (cc)) e

pub natural_of-digits : (ds : List ℕ) → 0 < length ds → natural_of ds ≡ digits_after 0 ds
natural_of-digits [] h = absurd (omega arith)
natural_of-digits (d ∷ ds) h = refl
