-- Words of bars.
use Rattle.std.proofs.Common.{◌≡◌, ℕ, Bool, true, false, ◌&&◌, ◌==◌, ◌-◌, ◌≤◌, List, [], ◌∷◌, ◌++◌, drop, get_or, length, take, refl, sym, ap, ◌∙◌, arith}
use Rattle.std.specs.List.{list_all}
use Rattle.std.proofs.lemmas.List.{take_all}
use Rattle.std.proofs.lemmas.Bool.{and_parts, cond-false, cond-true, false_from_ne_true}
use Rattle.std.proofs.lemmas.Bool.Decides.{Decides-eqb, nat_tests}
use Rattle.std.proofs.lemmas.List.Folds.{list_all-append}
use Rattle.tm_lines.specs.Lines.{is_blank, put_first, words_of}
use Rattle.tm_event_lines.specs.EventFaults.{are_bars, closes_bars, is_bar_letter, is_bars}

and_swap : (a b c : Bool) → (a && (b && c)) ≡ (b && (a && c))
and_swap true true c = refl
and_swap true false c = refl
and_swap false true c = refl
and_swap false false c = refl

and_true : (b : Bool) → (b && true) ≡ b
and_true true = refl
and_true false = refl

-- the last byte closes the bars, and those before it are letters
pub closes_bars-last : (letters : List ℕ) (last : ℕ) → closes_bars (letters ++ last ∷ []) ≡ ((last == 93) && list_all is_bar_letter letters)
closes_bars-last [] last = sym (and_true (last == 93))
closes_bars-last (b ∷ []) last = ap (λ r. is_bar_letter b && r) (sym (and_true (last == 93))) ∙ and_swap (is_bar_letter b) (last == 93) true
closes_bars-last (b ∷ c ∷ letters) last =
    ap (λ r. is_bar_letter b && r) (closes_bars-last (c ∷ letters) last) ∙ and_swap (is_bar_letter b) (last == 93) (list_all is_bar_letter (c ∷ letters))

-- another byte at the end doesn't
pub closes_bars-other : (letters : List ℕ) (last : ℕ) → (last ≡ 93 → ⊥) → (last == 93) ≡ closes_bars (letters ++ last ∷ [])
closes_bars-other letters last other =
    let no : (last == 93) ≡ false = false_from_ne_true (last == 93) (λ e. other ((Decides-eqb last 93).0 e)) in
    no ∙ sym (closes_bars-last letters last ∙ ap (λ r. r && list_all is_bar_letter letters) no)

letter-no_blank : (b : ℕ) → is_bar_letter b ≡ true → is_blank b ≡ false
letter-no_blank b h = grind (arith, nat_tests)

-- what closes bars goes on with the word before it
closing-word : (b : ℕ) (bs : List ℕ) → is_blank b ≡ false → closes_bars bs ≡ true → words_of (b ∷ bs) ≡ (b ∷ bs) ∷ []
closing-word b [] solid h = absurd (cc)
closing-word b (c ∷ []) solid h = rw ((Decides-eqb c 93).0 h) (cond-false (is_blank b) _ _ solid)
closing-word b (c ∷ d ∷ bs) solid h =
    let parts = and_parts (is_bar_letter c) (closes_bars (d ∷ bs)) h in
    let letter = letter-no_blank c parts.0 in
    cond-false (is_blank b) _ _ solid ∙ cond-false (is_blank c) _ _ letter ∙ ap (put_first b) (closing-word c (d ∷ bs) letter parts.1)

-- bars are one word
bars-word : (word : List ℕ) → is_bars word ≡ true → are_bars (words_of word) ≡ true
bars-word [] h = refl
bars-word (b ∷ bs) h =
    let parts = and_parts (b == 91) (closes_bars bs) h in
    ap are_bars (closing-word b bs (ap is_blank ((Decides-eqb b 91).0 parts.0)) parts.1) ∙ h

-- bars behind a space
pub spaced-bars : (bytes : List ℕ) → 1 ≤ length bytes → get_or bytes 0 0 ≡ 32 → is_bars (take (length bytes - 1) (drop 1 bytes)) ≡ true → are_bars (words_of bytes) ≡ true
spaced-bars [] some space h = absurd (omega arith)
spaced-bars (b ∷ word) some space h =
    ap are_bars (cond-true (is_blank b) _ _ (ap is_blank space)) ∙ bars-word word (sym (ap is_bars (take_all (length (b ∷ word) - 1) word (omega arith))) ∙ h)

-- one letter more
pub letters-push : (letters : List ℕ) (b : ℕ) → list_all is_bar_letter (letters ++ b ∷ []) ≡ (list_all is_bar_letter letters && is_bar_letter b)
letters-push letters b =
    list_all-append is_bar_letter letters (b ∷ []) ∙ ap (λ t. list_all is_bar_letter letters && t) (and_true (is_bar_letter b))
