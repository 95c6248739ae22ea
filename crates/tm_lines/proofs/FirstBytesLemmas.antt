-- What the first bytes of a line say of its first word.
use Rattle.std.proofs.Common.{◌≡◌, ℕ, ◌≤◌, Bool, true, false, ◌&&◌, ◌||◌, List, [], ◌∷◌, get_or, length, None, refl, sym, ap, ◌∙◌, arith}
use Rattle.std.specs.List.{find, list_any}
use Rattle.std.specs.Str.{bytes_eq}
use Rattle.std.proofs.lemmas.Bool.{cond_both, cond-false}
use Rattle.tm_lines.specs.FirstWords.{begins_with, declarator_word, declarators, first_word_of}
use Rattle.tm_lines.specs.Lines.{is_blank, put_first, put_word, words_of}
use Rattle.tm_lines.specs.NamedLines.{declarator_of, word_at}
use Rattle.tm_lines.proofs.FirstWordsLemmas.{declarator_of-found}

and_false : (p : Bool) → (p && false) ≡ false
and_false true = refl
and_false false = refl

and_less : (p q r : Bool) → (p && q) ≡ false → (p && (q && r)) ≡ false
and_less true q r h = ap (λ t. t && r) h
and_less false q r h = refl

neither : (p q : Bool) → (p || q) ≡ false → (p ≡ false) × (q ≡ false)
neither true q h = absurd (cc)
neither false q h = (refl, h)

-- a word that begins otherwise isn't the first byte alone, and no word that begins with both bytes
one_byte : (a b : ℕ) (v : List ℕ) → begins_with a b v ≡ false → bytes_eq v (a ∷ []) ≡ false
one_byte a b [] h = absurd (cc)
one_byte a b (x ∷ []) h = ap (λ t. t && true) h
one_byte a b (x ∷ y ∷ v) h = and_false _

two_bytes : (a b : ℕ) (v u : List ℕ) → begins_with a b v ≡ false → bytes_eq v (a ∷ b ∷ u) ≡ false
two_bytes a b [] u h = absurd (cc)
two_bytes a b (x ∷ []) u h = and_false _
two_bytes a b (x ∷ y ∷ v) u h = and_less _ _ (bytes_eq v u) h

put_two : (a b : ℕ) (v : List ℕ) (ws : List (List ℕ)) → begins_with a b v ≡ false → bytes_eq v (word_at 0 (put_first a (put_first b ws))) ≡ false
put_two a b v [] h = two_bytes a b v [] h
put_two a b v (w ∷ ws) h = two_bytes a b v w h

put_word-two : (a b : ℕ) (v bs : List ℕ) (ws : List (List ℕ)) → begins_with a b v ≡ false → bytes_eq v (word_at 0 (put_first a (put_word b bs ws))) ≡ false
put_word-two a b v [] ws h = two_bytes a b v [] h
put_word-two a b v (c ∷ bs) ws h =
    cond_both (is_blank c) ((b ∷ []) ∷ ws) (put_first b ws) (λ r. bytes_eq v (word_at 0 (put_first a r)) ≡ false)
    (λ e. two_bytes a b v [] h) (λ e. put_two a b v ws h)

-- a word that begins otherwise isn't the line's first
first_word-other : (a b : ℕ) (bs v : List ℕ) → is_blank a ≡ false → begins_with a b v ≡ false → bytes_eq v (word_at 0 (words_of (a ∷ b ∷ bs))) ≡ false
first_word-other a b bs v no_blank h =
    ap (λ ws. bytes_eq v (word_at 0 ws)) (cond-false (is_blank a) _ _ no_blank)
    ∙ cond_both (is_blank b) ((a ∷ []) ∷ words_of (b ∷ bs)) (put_first a (words_of (b ∷ bs))) (λ ws. bytes_eq v (word_at 0 ws) ≡ false)
    (λ e. one_byte a b v h)
    (λ e. ap (λ ws. bytes_eq v (word_at 0 (put_first a ws))) (cond-false (is_blank b) _ _ e) ∙ put_word-two a b v bs (words_of bs) h)

find-other : {X : Type 0} (word : X → List ℕ) (w : List ℕ) (test : List ℕ → Bool) → ((v : List ℕ) → test v ≡ false → bytes_eq v w ≡ false) → (xs : List X) → list_any (λ x. test (word x)) xs ≡ false → find (λ x. bytes_eq (word x) w) xs ≡ None
find-other word w test other [] h = refl
find-other word w test other (x ∷ xs) h =
    let both = neither (test (word x)) (list_any (λ y. test (word y)) xs) h in
    cond-false (bytes_eq (word x) w) _ _ (other (word x) both.0) ∙ find-other word w test other xs both.1

-- a line declares nothing where no declaring word begins with its first bytes
pub declares-nothing : (line : List ℕ) → 2 ≤ length line → is_blank (get_or line 0 0) ≡ false → list_any (λ d. begins_with (get_or line 0 0) (get_or line 1 0) (declarator_word d)) declarators ≡ false → declarator_of (first_word_of (word_at 0 (words_of line))) ≡ None
declares-nothing [] many no_blank h = absurd (omega arith)
declares-nothing (a ∷ []) many no_blank h = absurd (omega arith)
declares-nothing (a ∷ b ∷ bs) many no_blank h =
    let w = word_at 0 (words_of (a ∷ b ∷ bs)) in
    sym (declarator_of-found w) ∙ find-other declarator_word w (begins_with a b) (λ v e. first_word-other a b bs v no_blank e) declarators h
