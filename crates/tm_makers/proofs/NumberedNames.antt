-- Names that are a word with a number of at most two digits behind it.
use Rattle.std.proofs.Common.{◌≡◌, ◌≢◌, ◌≤◌, ◌<◌, ◌+◌, ◌/◌, ◌%◌, ℕ, Bool, true, ◌&&◌, nat_le, List, [], ◌∷◌, ◌++◌, length, codes, ⊎_elim, arith, refl, sym, ap, ◌∙◌}
use Rattle.std.specs.List.{list_all}
use Rattle.std.specs.Fmt.{decimal}
use Rattle.std.proofs.lemmas.Bool.{cases_lt}
use Rattle.std.proofs.lemmas.Bool.Decides.{nat_tests}
use Rattle.std.proofs.lemmas.Fmt.{decimal_digit, decimal_step, decimal_injective}
use Rattle.std.proofs.lemmas.List.{append_assoc, append_cancel_left, same_from_push, length-append}
use Rattle.tm_base.specs.Names.{IsName, is_letter, is_word}
use Rattle.tm_makers.specs.Drafts.{is_short_name}
use Rattle.tm_makers.specs.LineForms.{numbered}

is_word-digit : (d : ℕ) → d < 10 → is_word (48 + d) ≡ true
is_word-digit d h = grind (arith, nat_tests)

-- the digits of a number below 100: a front of at most one, and the last
record Ends (n : ℕ) : Type 0 where
  front : List ℕ
  is : decimal n ≡ front ++ (48 + n % 10) ∷ []
  words : list_all is_word front ≡ true
  short : length front ≤ 1

ends : (n : ℕ) → n < 100 → Ends n
ends n small =
    ⊎_elim
    (λ (below : n < 10).
    let last : n ≡ n % 10 = omega arith in
    record { front = []; is = decimal_digit n below ∙ ap (λ m. (48 + m) ∷ []) last; words = refl; short = omega arith })
    (λ (above : 10 ≤ n).
    let first : n / 10 < 10 = omega arith in
    record {
      front = (48 + n / 10) ∷ [];
      is = decimal_step n above (omega arith) ∙ ap (λ ds. ds ++ (48 + n % 10) ∷ []) (decimal_digit (n / 10) first);
      words = ap (λ b. b && true) (is_word-digit (n / 10) first);
      short = omega arith;
    })
    (cases_lt n 10)

list_all-append : (p : ℕ → Bool) (xs ys : List ℕ) → list_all p xs ≡ true → list_all p ys ≡ true → list_all p (xs ++ ys) ≡ true
list_all-append p [] ys h k = k
list_all-append p (x ∷ xs) ys h k = let more = list_all-append p xs ys in grind (arith, more)

decimal-words : (n : ℕ) → n < 100 → list_all is_word (decimal n) ≡ true
decimal-words n small =
    let e = ends n small in
    ap (list_all is_word) e.is
    ∙ list_all-append is_word e.front ((48 + n % 10) ∷ []) e.words (ap (λ b. b && true) (is_word-digit (n % 10) (omega arith)))

decimal-short : (n : ℕ) → n < 100 → length (decimal n) ≤ 2
decimal-short n small =
    let e = ends n small in
    let size = ap length e.is ∙ length-append e.front ((48 + n % 10) ∷ []) in
    omega (arith, e.short)

both : (a b : Bool) → a ≡ true → b ≡ true → (a && b) ≡ true
both a b h k = grind arith

named-at : (b : ℕ) (bs ds : List ℕ) → is_short_name (b ∷ bs) ≡ true → list_all is_word ds ≡ true → length ds ≤ 2 → IsName ((b ∷ bs) ++ ds)
named-at b bs ds h words short =
    let parts : (is_letter b ≡ true) × (list_all is_word bs ≡ true) × (length (b ∷ bs) ≤ 14) = (grind (arith, nat_tests), grind (arith, nat_tests), grind (arith, nat_tests)) in
    let size = length-append bs ds in
    let few : length (bs ++ ds) ≤ 15 = omega (arith, parts.2) in
    both (is_letter b && list_all is_word (bs ++ ds)) (nat_le (length (bs ++ ds)) 15)
    (both (is_letter b) (list_all is_word (bs ++ ds)) parts.0 (list_all-append is_word bs ds parts.1 words))
    (grind (arith, nat_tests))

pub named : (word : List ℕ) (n : ℕ) → is_short_name word ≡ true → n < 100 → IsName (numbered word n)
named [] n h small = absurd cc
named (b ∷ bs) n h small = named-at b bs (decimal n) h (decimal-words n small) (decimal-short n small)

-- such a name isn't `main`, since it ends in a digit
pub free : (word : List ℕ) (n : ℕ) → n < 100 → numbered word n ≢ codes "main"
free word n small same =
    let e = ends n small in
    let front = codes "mai" in
    let pushed : (word ++ e.front) ++ (48 + n % 10) ∷ [] ≡ front ++ 110 ∷ [] =
    append_assoc word e.front ((48 + n % 10) ∷ []) ∙ ap (λ ds. word ++ ds) (sym e.is) ∙ same in
    let last = same_from_push (word ++ e.front) front (48 + n % 10) 110 pushed in
    let at : 48 + n % 10 ≡ 110 = last.1 in
    omega arith

pub once : (word : List ℕ) (i j : ℕ) → i < 100 → j < 100 → numbered word i ≡ numbered word j → i ≡ j
once word i j hi hj same =
    decimal_injective i j (omega arith) (omega arith) (append_cancel_left word (decimal i) (decimal j) same)
