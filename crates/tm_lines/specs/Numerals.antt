-- How numbers, registers and comparisons are spelled.
use Rattle.std.specs.Prelude.{ℕ, ◌+◌, ◌*◌, ◌-◌, ℤ, pos, neg_ℤ, int_le, Bool, false, ◌&&◌, ◌==◌, nat_le, if◌then◌else◌, List, [], ◌∷◌, codes, Option, Some, None, option_map, option_and_then}
use Rattle.std.specs.Str.{bytes_eq}
use Rattle.tm_base.specs.Names.{is_digit}
use Rattle.tm_programs.specs.declared.instructions.Comparison.{Comparison}
use Rattle.tm_programs.specs.declared.instructions.Comparison.TheVariants as comparison

-- The number that decimal digits write after a number that was written before them; none where a byte is
-- no digit.
abbrev pub digits_after : ℕ → List ℕ → Option ℕ
digits_after n [] = Some n
digits_after n (b ∷ bs) = if is_digit b then digits_after (10 * n + (b - 48)) bs else None

-- The number that one or more digits write.
abbrev pub natural_of : List ℕ → Option ℕ
natural_of [] = None
natural_of (b ∷ bs) = digits_after 0 (b ∷ bs)

-- The number that a word writes: one or more digits, after a `-` where it is negative.
abbrev pub integer_of : List ℕ → Option ℤ
integer_of [] = None
integer_of (b ∷ bs) = if b == 45 then option_map (λ n. neg_ℤ (pos n)) (natural_of bs) else option_map pos (natural_of (b ∷ bs))

-- The number, where it is in this range.
abbrev pub unless_outside : ℤ → ℤ → ℤ → Option ℤ
unless_outside least most k = if int_le least k && int_le k most then Some k else None

-- The number that a word writes, where it writes one in this range.
abbrev pub number_of : ℤ → ℤ → List ℕ → Option ℤ
number_of least most word = option_and_then (unless_outside least most) (integer_of word)

-- The register that a word names: `r0` to `r7`.
abbrev pub register_of : List ℕ → Option ℕ
register_of (r ∷ b ∷ []) = if r == 114 && (nat_le 48 b && nat_le b 55) then Some (b - 48) else None
register_of word = None

-- The word begins with `r`, and is read as a register.
abbrev pub begins_with_r : List ℕ → Bool
begins_with_r [] = false
begins_with_r (b ∷ bs) = b == 114

-- The sign of a comparison.
abbrev pub sign_of : Comparison → List ℕ
sign_of comparison.Equal = codes "="
sign_of comparison.NotEqual = codes "!="
sign_of comparison.Less = codes "<"
sign_of comparison.AtMost = codes "<="
sign_of comparison.Greater = codes ">"
sign_of comparison.AtLeast = codes ">="

-- The comparison with this sign.
abbrev pub comparison_of : List ℕ → Option Comparison
comparison_of word =
    if bytes_eq word (codes "=") then Some comparison.Equal
    else (if bytes_eq word (codes "!=") then Some comparison.NotEqual
    else (if bytes_eq word (codes "<") then Some comparison.Less
    else (if bytes_eq word (codes "<=") then Some comparison.AtMost
    else (if bytes_eq word (codes ">") then Some comparison.Greater
    else (if bytes_eq word (codes ">=") then Some comparison.AtLeast
    else None)))))
