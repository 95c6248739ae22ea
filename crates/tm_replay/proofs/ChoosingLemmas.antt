-- The first number of a range that passes, and those that pass.
use Rattle.std.proofs.Common.{◌≡◌, ℕ, zero, suc, ◌+◌, ◌-◌, ◌<◌, ◌≤◌, Bool, true, false, ⊎_elim, cond, [], ◌∷◌, filter, find, Some, None, refl, ap, ◌∙◌, arith}
use Rattle.std.specs.List.{range_with_len}
use Rattle.std.proofs.lemmas.Bool.{cases_lt}

-- the first number of a range that passes
pub find-range : (p : ℕ → Bool) (from n t : ℕ) → from ≤ t → t < from + n → ((k : ℕ) → from ≤ k → k < t → p k ≡ false) → p t ≡ true → find p (range_with_len from n) ≡ Some t
find-range p from zero t low high before here = absurd (omega (arith, low, high))
find-range p from (suc n) t low high before here = ⊎_elim
    (λ (later : from < t).
    let first : p from ≡ false = before from (omega arith) later in
    ap (λ b. cond b (Some from) (find p (range_with_len (from + 1) n))) first
    ∙ find-range p (from + 1) n t (omega (arith, later)) (omega (arith, high)) (λ k l h. before k (omega (arith, l)) h) here)
    (λ (now : t ≤ from).
    let same : from ≡ t = omega (arith, low, now) in
    let first : p from ≡ true = ap p same ∙ here in
    ap (λ b. cond b (Some from) (find p (range_with_len (from + 1) n))) first ∙ ap Some same)
    (cases_lt from t)

pub find-range_none : (p : ℕ → Bool) (from n : ℕ) → ((k : ℕ) → from ≤ k → k < from + n → p k ≡ false) → find p (range_with_len from n) ≡ None
find-range_none p from zero before = refl
find-range_none p from (suc n) before =
    ap (λ b. cond b (Some from) (find p (range_with_len (from + 1) n))) (before from (omega arith) (omega arith))
    ∙ find-range_none p (from + 1) n (λ k l h. before k (omega (arith, l)) (omega (arith, h)))

-- the numbers of a range that pass begin with the first one
pub filter-range : (p : ℕ → Bool) (from n t : ℕ) → from ≤ t → t < from + n → ((k : ℕ) → from ≤ k → k < t → p k ≡ false) → p t ≡ true
    → filter p (range_with_len from n) ≡ t ∷ filter p (range_with_len (t + 1) (from + n - (t + 1)))
filter-range p from zero t low high before here = absurd (omega (arith, low, high))
filter-range p from (suc n) t low high before here = ⊎_elim
    (λ (later : from < t).
    let first : p from ≡ false = before from (omega arith) later in
    let left : from + 1 + n - (t + 1) ≡ from + suc n - (t + 1) = omega arith in
    ap (λ b. cond b (from ∷ filter p (range_with_len (from + 1) n)) (filter p (range_with_len (from + 1) n))) first
    ∙ filter-range p (from + 1) n t (omega (arith, later)) (omega (arith, high)) (λ k l h. before k (omega (arith, l)) h) here
    ∙ ap (λ m. t ∷ filter p (range_with_len (t + 1) m)) left)
    (λ (now : t ≤ from).
    let same : from ≡ t = omega (arith, low, now) in
    let first : p from ≡ true = ap p same ∙ here in
    let left : n ≡ from + suc n - (t + 1) = omega (arith, same) in
    ap (λ b. cond b (from ∷ filter p (range_with_len (from + 1) n)) (filter p (range_with_len (from + 1) n))) first
    ∙ ap (λ m. m ∷ filter p (range_with_len (m + 1) n)) same
    ∙ ap (λ m. t ∷ filter p (range_with_len (t + 1) m)) left)
    (cases_lt from t)

pub filter-range_none : (p : ℕ → Bool) (from n : ℕ) → ((k : ℕ) → from ≤ k → k < from + n → p k ≡ false) → filter p (range_with_len from n) ≡ []
filter-range_none p from zero before = refl
filter-range_none p from (suc n) before =
    ap (λ b. cond b (from ∷ filter p (range_with_len (from + 1) n)) (filter p (range_with_len (from + 1) n))) (before from (omega arith) (omega arith))
    ∙ filter-range_none p (from + 1) n (λ k l h. before k (omega (arith, l)) (omega (arith, h)))
