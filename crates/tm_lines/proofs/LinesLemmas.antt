-- The lines and words that the code cuts off the start.
use Rattle.std.proofs.Common.{◌≡◌, ℕ, zero, suc, ◌+◌, ◌<◌, ◌≤◌, ◌≢◌, Bool, true, false, cond, not, ◌&&◌, ◌==◌, eqb, List, [], ◌∷◌, ◌++◌, length, take, drop, Option, None, Some, refl, sym, ap, ◌∙◌, arith}
use Rattle.std.specs.List.{list_all, prefix_len, position_or_len}
use Rattle.std.specs.Option.{unwrap_or}
use Rattle.std.proofs.lemmas.Bool.{cond_both, cond-true, cond-false, false_from_ne_true}
use Rattle.std.proofs.lemmas.Bool.Decides.{Decides-eqb}
use Rattle.std.proofs.lemmas.List.Folds.{list_all-append, prefix_len-append}
use Rattle.std.proofs.lemmas.List.Sums.{position_or_len_is, prefix_len-le-length}
use Rattle.memchr.specs.Find.{IsFirstByte, is_byte}
use Rattle.tm_lines.specs.Lines.{is_blank, is_lf, is_printed, lines_of, put_first, without_cr, words_of}

-- the first element fails the test
pub stops : (t : Bool) (m : ℕ) → cond t (1 + m) 0 ≡ 0 → t ≡ false
stops true m e = absurd (omega arith)
stops false m e = refl

-- it passes, and so do the others in front
pub goes_on : (t : Bool) (m n : ℕ) → cond t (1 + m) 0 ≡ suc n → (t ≡ true) × (m ≡ n)
goes_on true m n e = (refl, omega arith)
goes_on false m n e = absurd (omega arith)

pub not_false : (t : Bool) → not t ≡ false → t ≡ true
not_false true e = refl
not_false false e = sym e

pub not_true : (t : Bool) → not t ≡ true → t ≡ false
not_true true e = sym e
not_true false e = refl

-- an LF cuts the first line off
pub lines_of-at : (bs : List ℕ) (n : ℕ) → position_or_len is_lf bs ≡ n → n < length bs → lines_of bs ≡ take n bs ∷ lines_of (drop (suc n) bs)
lines_of-at [] n e h = absurd (omega arith)
lines_of-at (b ∷ bs) zero e h = cond-true (b == 10) _ _ (not_false (b == 10) (stops (not (b == 10)) _ e))
lines_of-at (b ∷ bs) (suc n) e h =
    let g = goes_on (not (b == 10)) (position_or_len is_lf bs) n e in
    let below : n < length bs = omega arith in
    cond-false (b == 10) _ _ (not_true (b == 10) g.0) ∙ ap (put_first b) (lines_of-at bs n g.1 below)

-- without an LF the bytes are one line
pub lines_of-last : (bs : List ℕ) → 0 < length bs → position_or_len is_lf bs ≡ length bs → lines_of bs ≡ bs ∷ []
lines_of-last [] h e = absurd (omega arith)
lines_of-last (b ∷ []) h e =
    let g = goes_on (not (b == 10)) 0 0 (e ∙ omega arith) in
    cond-false (b == 10) _ _ (not_true (b == 10) g.0)
lines_of-last (b ∷ c ∷ bs) h e =
    let g = goes_on (not (b == 10)) (position_or_len is_lf (c ∷ bs)) (length (c ∷ bs)) e in
    cond-false (b == 10) _ _ (not_true (b == 10) g.0) ∙ ap (put_first b) (lines_of-last (c ∷ bs) (omega arith) g.1)

-- a word ends before the first blank, or at the end
pub words_of-word : (line : List ℕ) (n : ℕ) → position_or_len is_blank line ≡ suc n → words_of line ≡ take (suc n) line ∷ words_of (drop (suc n) line)
words_of-word [] n e = absurd (omega arith)
words_of-word (b ∷ []) n e =
    let g = goes_on (not (is_blank b)) 0 n e in
    let zeroth : 0 ≡ n = g.1 in
    cond-false (is_blank b) _ _ (not_true (is_blank b) g.0) ∙ ap (λ k. (b ∷ take k []) ∷ words_of (drop k [])) zeroth
words_of-word (b ∷ c ∷ bs) zero e =
    let g = goes_on (not (is_blank b)) (position_or_len is_blank (c ∷ bs)) 0 e in
    cond-false (is_blank b) _ _ (not_true (is_blank b) g.0) ∙ cond-true (is_blank c) _ _ (not_false (is_blank c) (stops (not (is_blank c)) _ g.1))
words_of-word (b ∷ c ∷ bs) (suc n) e =
    let g = goes_on (not (is_blank b)) (position_or_len is_blank (c ∷ bs)) (suc n) e in
    let f = goes_on (not (is_blank c)) (position_or_len is_blank bs) n g.1 in
    cond-false (is_blank b) _ _ (not_true (is_blank b) g.0) ∙ cond-false (is_blank c) _ _ (not_true (is_blank c) f.0) ∙ ap (put_first b) (words_of-word (c ∷ bs) n g.1)

-- blanks in front count for nothing
pub words_of-drop : (line : List ℕ) (n : ℕ) → prefix_len is_blank line ≡ n → words_of line ≡ words_of (drop n line)
words_of-drop [] n e = ap (λ k. words_of (drop k [])) e
words_of-drop (b ∷ line) zero e = refl
words_of-drop (b ∷ line) (suc n) e =
    let g = goes_on (is_blank b) (prefix_len is_blank line) n e in
    cond-true (is_blank b) _ _ g.0 ∙ words_of-drop line n g.1

-- a line that goes on after its blanks goes on with a word
pub word_follows : (line : List ℕ) (n : ℕ) → prefix_len is_blank line ≡ n → n < length line → (m : ℕ) × (position_or_len is_blank (drop n line) ≡ suc m)
word_follows [] n e h = absurd (omega arith)
word_follows (b ∷ line) zero e h =
    let blank = stops (is_blank b) _ e in
    (position_or_len is_blank line, rw blank (omega arith))
word_follows (b ∷ line) (suc n) e h = word_follows line n (goes_on (is_blank b) (prefix_len is_blank line) n e).1 (omega arith)

-- the first word and what follows
pub words_of-first : (line : List ℕ) (n m : ℕ) → prefix_len is_blank line ≡ n → n < length line → position_or_len is_blank (drop n line) ≡ m → words_of line ≡ take m (drop n line) ∷ words_of (drop m (drop n line))
words_of-first line n m e h p =
    let w = word_follows line n e h in
    let same : suc w.0 ≡ m = sym w.1 ∙ p in
    words_of-drop line n e ∙ words_of-word (drop n line) w.0 w.1 ∙ ap (λ k. take k (drop n line) ∷ words_of (drop k (drop n line))) same

-- one CR at the end is taken off
pub without_cr-cr : (line : List ℕ) → without_cr (line ++ 13 ∷ []) ≡ line
without_cr-cr [] = refl
without_cr-cr (b ∷ []) = refl
without_cr-cr (b ∷ c ∷ line) = ap (λ l. b ∷ l) (without_cr-cr (c ∷ line))

pub without_cr-none : (line : List ℕ) → ((prefix : List ℕ) → line ≢ prefix ++ 13 ∷ []) → without_cr line ≡ line
without_cr-none [] h = refl
without_cr-none (b ∷ []) h =
    cond_both (b == 13) [] (b ∷ []) (λ l. l ≡ b ∷ []) (λ e. absurd (h [] (ap (λ k. k ∷ []) ((Decides-eqb b 13).0 e)))) (λ e. refl)
without_cr-none (b ∷ c ∷ line) h = ap (λ l. b ∷ l) (without_cr-none (c ∷ line) (λ prefix e. h (b ∷ prefix) (ap (λ l. b ∷ l) e)))

-- the first LF is where the search found it, or nowhere
pub line-end : (bytes : List ℕ) (found : Option ℕ) → IsFirstByte (is_byte 10) bytes found → unwrap_or found (length bytes) ≡ position_or_len is_lf bytes
line-end bytes None h =
    sym (position_or_len_is is_lf bytes (length bytes) 0 (omega arith) (λ k below. false_from_ne_true _ (h k (omega arith) below)) (λ below. absurd (omega arith)))
line-end bytes (Some k) h =
    let first = h.0 in
    sym (position_or_len_is is_lf bytes k 0 (omega (arith, first.high)) (λ j below. false_from_ne_true _ (first.before j (omega arith) below)) (λ below. h.1))

-- the first LF is in front
pub end-in_front : (bytes front back : List ℕ) (n : ℕ) → bytes ≡ front ++ back → n ≡ position_or_len is_lf front → n < length front → n ≡ position_or_len is_lf bytes
end-in_front bytes front back n parts e below =
    let p : ℕ → Bool = λ b. not (is_lf b) in
    let other : eqb (prefix_len p front) (length front) ≡ false = false_from_ne_true _ (λ same. let whole : prefix_len p front ≡ length front = (Decides-eqb (prefix_len p front) (length front)).0 same in omega (arith, whole, e, below)) in
    e ∙ sym (cond-false (eqb (prefix_len p front) (length front)) (length front + prefix_len p back) (prefix_len p front) other) ∙ sym (prefix_len-append p front back) ∙ ap (position_or_len is_lf) (sym parts)

-- it isn't
pub end-behind : (bytes front back : List ℕ) (n m : ℕ) → bytes ≡ front ++ back → n ≡ position_or_len is_lf front → length front ≤ n → m ≡ position_or_len is_lf back → n + m ≡ position_or_len is_lf bytes
end-behind bytes front back n m parts e whole f =
    let p : ℕ → Bool = λ b. not (is_lf b) in
    let most = prefix_len-le-length p front in
    let len : prefix_len p front ≡ length front = omega (arith, most, whole, e) in
    let same = (Decides-eqb (prefix_len p front) (length front)).1 len in
    let sum : n + m ≡ length front + prefix_len p back = omega (arith, e, f, len) in
    sum ∙ sym (cond-true (eqb (prefix_len p front) (length front)) (length front + prefix_len p back) (prefix_len p front) same) ∙ sym (prefix_len-append p front back) ∙ ap (position_or_len is_lf) (sym parts)

and_true : (b : Bool) → (b && true) ≡ b
and_true true = refl
and_true false = refl

-- one byte more
pub printed-push : (line : List ℕ) (b : ℕ) → list_all is_printed (line ++ b ∷ []) ≡ (list_all is_printed line && is_printed b)
printed-push line b = list_all-append is_printed line (b ∷ []) ∙ ap (λ t. list_all is_printed line && t) (and_true (is_printed b))
