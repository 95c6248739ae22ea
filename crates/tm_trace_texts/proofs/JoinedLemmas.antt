-- Lines, joined again with their LFs.
use Rattle.std.proofs.Common.{◌≡◌, ℕ, zero, suc, ◌+◌, ◌<◌, ◌≤◌, ◌==◌, List, [], ◌∷◌, ◌++◌, take, length, length-append, refl, ap, ◌∙◌, arith}
use Rattle.std.proofs.lemmas.Bool.{cond_both}
use Rattle.std.proofs.lemmas.Bool.Decides.{Decides-eqb}
use Rattle.tm_lines.specs.Lines.{lines_of, put_first}
use Rattle.tm_trace_texts.specs.TraceTexts.{joined}

-- the bytes begin with the first lines
abbrev BeginsWith : List ℕ → List (List ℕ) → ℕ → Type 0
BeginsWith bs ls k = k < length ls → take (length (joined (take k ls))) bs ≡ joined (take k ls)

begins-lf : (b : ℕ) (bs : List ℕ) (ls : List (List ℕ)) (k : ℕ) → b ≡ 10 → ((j : ℕ) → BeginsWith bs ls j) → BeginsWith (b ∷ bs) ([] ∷ ls) k
begins-lf b bs ls zero e ih h = refl
begins-lf b bs ls (suc j) e ih h =
    let below : j < length ls = omega arith in
    ap (λ c. c ∷ take (length (joined (take j ls))) bs) e ∙ ap (λ l. 10 ∷ l) (ih j below)

begins-byte : (b : ℕ) (bs : List ℕ) (ls : List (List ℕ)) (k : ℕ) → ((j : ℕ) → BeginsWith bs ls j) → BeginsWith (b ∷ bs) (put_first b ls) k
begins-byte b bs [] zero ih h = refl
begins-byte b bs [] (suc j) ih h = absurd (omega arith)
begins-byte b bs (l ∷ ls) zero ih h = refl
begins-byte b bs (l ∷ ls) (suc j) ih h = ap (λ r. b ∷ r) (ih (suc j) h)

pub begins_with : (bs : List ℕ) (k : ℕ) → k < length (lines_of bs) → take (length (joined (take k (lines_of bs)))) bs ≡ joined (take k (lines_of bs))
begins_with [] k h = absurd (omega arith)
begins_with (b ∷ bs) k h =
    cond_both (b == 10) ([] ∷ lines_of bs) (put_first b (lines_of bs)) (λ ls. BeginsWith (b ∷ bs) ls k)
    (λ e. begins-lf b bs (lines_of bs) k ((Decides-eqb b 10).0 e) (begins_with bs)) (λ e. begins-byte b bs (lines_of bs) k (begins_with bs)) h

-- at most an LF more than the bytes
longer-byte : (b n : ℕ) (ls : List (List ℕ)) → length (joined ls) ≤ suc n → length (joined (put_first b ls)) ≤ suc (suc n)
longer-byte b n [] h = omega arith
longer-byte b n (l ∷ ls) h = omega arith

pub joined-longer : (bs : List ℕ) → length (joined (lines_of bs)) ≤ suc (length bs)
joined-longer [] = omega arith
joined-longer (b ∷ bs) =
    let later = joined-longer bs in
    cond_both (b == 10) ([] ∷ lines_of bs) (put_first b (lines_of bs)) (λ ls. length (joined ls) ≤ suc (suc (length bs)))
    (λ e. omega arith) (λ e. longer-byte b (length bs) (lines_of bs) later)

-- one line more
pub joined-length : (line : List ℕ) (lines : List (List ℕ)) → length (joined (line ∷ lines)) ≡ length line + 1 + length (joined lines)
joined-length line lines = length-append (line ++ 10 ∷ []) (joined lines) ∙ ap (λ n. n + length (joined lines)) (length-append line (10 ∷ []))
