-- The word that says a value: it is one word, says that value, and has no fault in a slot that the value fits.
use Rattle.std.proofs.Common.{◌≡◌, ℕ, suc, ◌+◌, ◌-◌, ◌*◌, ◌^◌, ◌<◌, ◌≤◌, ℤ, pos, negsuc, neg_ℤ, int_le, true, false, ◌&&◌, ◌==◌, nat_le, List, [], ◌∷◌, length, Some, None, option_map, option_and_then, refl, ap, ◌∙◌, arith, rules}
use Rattle.std.specs.Fmt.{decimal, signed_decimal}
use Rattle.std.specs.List.{list_all}
use Rattle.std.specs.Str.{all_ascii_digits}
use Rattle.std.proofs.lemmas.Bool.{and_from, and_parts, cond-false, cond-true, le-leb, leb-true}
use Rattle.std.proofs.lemmas.Bool.Decides.{nat_tests}
use Rattle.std.proofs.lemmas.Fmt.{decimal_digit, decimal_nonempty, digits_decimal, digits_value-decimal}
use Rattle.std.proofs.lemmas.Str.Parse.{IsNumeralModel, numerals_by_fold}
use Rattle.tm_base.specs.Names.{IsName, is_digit, is_letter, is_word}
use Rattle.tm_programs.specs.declared.instructions.Comparison.{Comparison}
use Rattle.tm_programs.specs.declared.instructions.Comparison.TheVariants as comparison
use Rattle.tm_lines.specs.declared.limits.TheConstants.{GREATEST_NUMBER, LEAST_NUMBER}
use Rattle.tm_lines.specs.Numerals.{begins_with_r, comparison_of, digits_after, integer_of, natural_of, number_of, register_of, sign_of, unless_outside}
use Rattle.tm_text.specs.declared.values.Value.TheVariants as value
use Rattle.tm_text.specs.CanonicalTexts.{value_word}
use Rattle.tm_text.proofs.JoinedWords.{Solid, is_graph}
use Rattle.tm_text.proofs.SaidValues.{IsIn}

-- the number that digits write
abbrev read_on : ℕ → List ℕ → ℕ
read_on n [] = n
read_on n (c ∷ cs) = read_on (10 * n + (c - 48)) cs

own : IsNumeralModel (λ ds. all_ascii_digits ds ≡ true) (read_on 0)
own = numerals_by_fold _ (search rules) read_on (search rules)

digits_read : (n : ℕ) (ds : List ℕ) → all_ascii_digits ds ≡ true → digits_after n ds ≡ Some (read_on n ds)
digits_read n [] h = refl
digits_read n (b ∷ ds) h =
    let parts = and_parts (is_digit b) (all_ascii_digits ds) h in
    cond-true (is_digit b) (digits_after (10 * n + (b - 48)) ds) None parts.0 ∙ digits_read (10 * n + (b - 48)) ds parts.1

natural_read : (ds : List ℕ) → 0 < length ds → all_ascii_digits ds ≡ true → natural_of ds ≡ Some (read_on 0 ds)
natural_read [] some h = absurd (omega arith)
natural_read (b ∷ ds) some h = digits_read 0 (b ∷ ds) h

pub natural_back : (n : ℕ) → n < 2 ^ 64 → natural_of (decimal n) ≡ Some n
natural_back n h = natural_read (decimal n) (decimal_nonempty n h) (digits_decimal own n h) ∙ ap Some (digits_value-decimal own n h)

-- digits are no minus sign and no `r`, and print
digit_byte : (b : ℕ) → is_digit b ≡ true → (b == 45 ≡ false) × (b == 114 ≡ false) × (is_graph b ≡ true)
digit_byte b h = (grind (arith, nat_tests), grind (arith, nat_tests), grind (arith, nat_tests))

digits_graph : (ds : List ℕ) → all_ascii_digits ds ≡ true → list_all is_graph ds ≡ true
digits_graph [] h = refl
digits_graph (b ∷ ds) h =
    let parts = and_parts (is_digit b) (all_ascii_digits ds) h in
    and_from (is_graph b) (list_all is_graph ds) (digit_byte b parts.0).2 (digits_graph ds parts.1)

pub decimal_solid : (n : ℕ) → n < 2 ^ 64 → Solid (decimal n)
decimal_solid n h = record { some = decimal_nonempty n h; graph = digits_graph (decimal n) (digits_decimal own n h) }

-- a number of 64 bits
abbrev pub IsLong : ℤ → Type 0
IsLong k = IsIn LEAST_NUMBER GREATEST_NUMBER k

long_natural : (n : ℕ) → IsLong (pos n) → n < 2 ^ 64
long_natural n h = let most = leb-true n 9223372036854775807 h.1 in omega arith

long_negative : (n : ℕ) → IsLong (negsuc n) → suc n < 2 ^ 64
long_negative n h = let most = leb-true n 9223372036854775807 h.0 in omega arith

unsigned_read : (n : ℕ) (ds : List ℕ) → 0 < length ds → all_ascii_digits ds ≡ true → natural_of ds ≡ Some n → (integer_of ds ≡ Some (pos n)) × (begins_with_r ds ≡ false)
unsigned_read n [] some h is = absurd (omega arith)
unsigned_read n (b ∷ ds) some h is =
    let first = digit_byte b (and_parts (is_digit b) (all_ascii_digits ds) h).0 in
    (cond-false (b == 45) (option_map (λ m. neg_ℤ (pos m)) (natural_of ds)) (option_map pos (natural_of (b ∷ ds))) first.0 ∙ ap (option_map pos) is, first.1)

-- a number is read back from its word
pub number_back : (k : ℤ) → IsLong k → (integer_of (signed_decimal k) ≡ Some k) × (begins_with_r (signed_decimal k) ≡ false)
number_back (pos n) h =
    let below = long_natural n h in unsigned_read n (decimal n) (decimal_nonempty n below) (digits_decimal own n below) (natural_back n below)
number_back (negsuc n) h = (ap (option_map (λ m. neg_ℤ (pos m))) (natural_back (suc n) (long_negative n h)), refl)

pub number_solid : (k : ℤ) → IsLong k → Solid (signed_decimal k)
number_solid (pos n) h = decimal_solid n (long_natural n h)
number_solid (negsuc n) h =
    let solid = decimal_solid (suc n) (long_negative n h) in
    let some = solid.some in
    record { some = omega arith; graph = solid.graph }

pub in_range : (least most k : ℤ) → IsLong k → IsIn least most k → number_of least most (signed_decimal k) ≡ Some k
in_range least most k long h =
    ap (option_and_then (unless_outside least most)) (number_back k long).0
    ∙ cond-true (int_le least k && int_le k most) (Some k) None (and_from (int_le least k) (int_le k most) h.0 h.1)

-- a register is read back from its word
register_word : (r : ℕ) → r < 8 → value_word (value.Register r) ≡ 114 ∷ (48 + r) ∷ []
register_word r h = let small : r < 10 = omega arith in ap (λ ds. 114 ∷ ds) (decimal_digit r small)

pub register_back : (r : ℕ) → r < 8 → register_of (value_word (value.Register r)) ≡ Some r
register_back r h =
    let least : 48 ≤ 48 + r = omega arith in
    let most : 48 + r ≤ 55 = omega arith in
    let same : 48 + r - 48 ≡ r = omega arith in
    ap register_of (register_word r h)
    ∙ cond-true (nat_le 48 (48 + r) && nat_le (48 + r) 55) (Some (48 + r - 48)) None (and_from (nat_le 48 (48 + r)) (nat_le (48 + r) 55) (le-leb 48 (48 + r) least) (le-leb (48 + r) 55 most)) ∙ ap Some same

pub register_solid : (r : ℕ) → r < 8 → Solid (value_word (value.Register r))
register_solid r h =
    let small : r < 2 ^ 64 = omega arith in
    let solid = decimal_solid r small in
    record { some = omega arith; graph = solid.graph }

pub comparison_back : (how : Comparison) → comparison_of (sign_of how) ≡ Some how
comparison_back comparison.Equal = refl
comparison_back how = refl

pub comparison_solid : (how : Comparison) → Solid (sign_of how)
comparison_solid comparison.Equal = record { some = omega arith; graph = refl }
comparison_solid how = record { some = omega arith; graph = refl }

-- a name is one word
word_byte : (b : ℕ) → is_word b ≡ true → is_graph b ≡ true
word_byte b h = grind (arith, nat_tests)

letter_byte : (b : ℕ) → is_letter b ≡ true → is_graph b ≡ true
letter_byte b h = grind (arith, nat_tests)

words_graph : (bs : List ℕ) → list_all is_word bs ≡ true → list_all is_graph bs ≡ true
words_graph [] h = refl
words_graph (b ∷ bs) h =
    let parts = and_parts (is_word b) (list_all is_word bs) h in
    and_from (is_graph b) (list_all is_graph bs) (word_byte b parts.0) (words_graph bs parts.1)

pub name_solid : (name : List ℕ) → IsName name → Solid name
name_solid [] h = absurd (let no : false ≡ true = h in cc)
name_solid (b ∷ bs) h =
    let outer = and_parts (is_letter b && list_all is_word bs) (nat_le (length bs) 15) h in
    let inner = and_parts (is_letter b) (list_all is_word bs) outer.0 in
    record { some = omega arith; graph = and_from (is_graph b) (list_all is_graph bs) (letter_byte b inner.0) (words_graph bs inner.1) }
