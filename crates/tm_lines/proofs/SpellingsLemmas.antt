-- A list of words that differ is searched by word.
use Rattle.std.proofs.Common.{◌≡◌, ℕ, zero, suc, ◌<◌, Bool, true, false, not, ◌&&◌, ◌||◌, List, [], ◌∷◌, length, get_or, Some, refl, sym, ap, ◌∙◌, arith}
use Rattle.std.specs.List.{Contains, find, list_any}
use Rattle.std.specs.Str.{bytes_eq}
use Rattle.std.proofs.lemmas.Bool.{cond_both, cond-true}
use Rattle.std.proofs.lemmas.Slice.Eq.{bytes_eq-Decides}
use Rattle.tm_lines.specs.declared.first_words.FirstWord.{FirstWord}
use Rattle.tm_lines.specs.FirstWords.{first_word_of, first_words, spelling}

-- no two of them have one word
abbrev are_apart : {X : Type 0} → (X → List ℕ) → List X → Bool
are_apart word [] = true
are_apart word (x ∷ xs) = not (list_any (λ y. bytes_eq (word y) (word x)) xs) && are_apart word xs

or_true : (a : Bool) (b : Bool) → b ≡ true → (a || b) ≡ true
or_true true b e = refl
or_true false b e = e

any-at : {X : Type 0} (test : X → Bool) (xs : List X) (f : X) (k : ℕ) → k < length xs → get_or xs k f ≡ f → test f ≡ true → list_any test xs ≡ true
any-at test [] f k h e t = absurd (omega arith)
any-at test (x ∷ xs) f zero h e t = ap (λ b. b || list_any test xs) (ap test e ∙ t)
any-at test (x ∷ xs) f (suc k) h e t = or_true (test x) _ (any-at test xs f k (omega arith) e t)

same_word : {X : Type 0} (word : X → List ℕ) (x y : X) → word x ≡ word y → bytes_eq (word x) (word y) ≡ true
same_word word x y e = (bytes_eq-Decides (word x) (word y)).1 e

both : (a b : Bool) → (not a && b) ≡ true → (a ≡ false) × (b ≡ true)
both true b e = absurd (cc)
both false b e = (refl, e)

-- what has the word of one of them is found
find-back : {X : Type 0} (word : X → List ℕ) (xs : List X) (f : X) (k : ℕ) → k < length xs → get_or xs k f ≡ f → are_apart word xs ≡ true → find (λ x. bytes_eq (word x) (word f)) xs ≡ Some f
find-back word [] f k h e apart = absurd (omega arith)
find-back word (x ∷ xs) f zero h e apart = cond-true (bytes_eq (word x) (word f)) _ _ (same_word word x f (ap word e)) ∙ ap Some e
find-back word (x ∷ xs) f (suc k) h e apart =
    let parts = both (list_any (λ y. bytes_eq (word y) (word x)) xs) (are_apart word xs) apart in
    cond_both (bytes_eq (word x) (word f)) (Some x) (find (λ y. bytes_eq (word y) (word f)) xs) (λ r. r ≡ Some f)
    (λ t. let found = any-at (λ y. bytes_eq (word y) (word x)) xs f k (omega arith) e (same_word word f x (sym ((bytes_eq-Decides (word x) (word f)).0 t))) in absurd (cc))
    (λ t. find-back word xs f k (omega arith) e parts.1)

pub spellings_back : (f : FirstWord) → Contains first_words f → first_word_of (spelling f) ≡ Some f
spellings_back f at = find-back spelling first_words f at.0 at.1 at.2 refl

pub spellings_distinct : (f g : FirstWord) → Contains first_words f → Contains first_words g → spelling f ≡ spelling g → f ≡ g
spellings_distinct f g in_f in_g same =
    let one : Some f ≡ Some g = sym (spellings_back f in_f) ∙ ap first_word_of same ∙ spellings_back g in_g in cc
