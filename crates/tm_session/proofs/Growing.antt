-- Lists that a loop makes, one element longer.
use Rattle.std.proofs.Common.{◌≡◌, ℕ, zero, suc, ◌+◌, ◌<◌, ◌≤◌, Bool, if◌then◌else◌, List, [], ◌∷◌, ◌++◌, map, filter, take, Some, slice_get, ap, ◌∙◌, arith}
use Rattle.std.specs.List.{range_with_len}
use Rattle.std.proofs.lemmas.List.Elements.{filter-append}
use Rattle.tm_replay.proofs.SliceLemmas.{range-snoc}

-- what a filter keeps of a range and of the number after it
pub filter-range_more : (p : ℕ → Bool) (a n j : ℕ) → a + n ≡ j → filter p (range_with_len a (n + 1)) ≡ filter p (range_with_len a n) ++ (if p j then j ∷ [] else [])
filter-range_more p a n j e =
    let one : n + 1 ≡ suc n = omega arith in
    ap (λ m. filter p (range_with_len a m)) one ∙ ap (filter p) (range-snoc a n) ∙ filter-append p (range_with_len a n) ((a + n) ∷ [])
    ∙ ap (λ k. filter p (range_with_len a n) ++ (if p k then k ∷ [] else [])) e

pub map-take_more : {A B : Type 0} (f : A → B) (xs : List A) (i : ℕ) (x : A) → slice_get xs i ≡ Some x → map f (take (i + 1) xs) ≡ map f (take i xs) ++ f x ∷ []
map-take_more f [] i x h = absurd cc
map-take_more f (y ∷ xs) zero x h = let e : y ≡ x = cc in ap (λ z. f z ∷ []) e
map-take_more f (y ∷ xs) (suc i) x h =
    let one : suc i + 1 ≡ suc (i + 1) = omega arith in
    ap (λ k. map f (take k (y ∷ xs))) one ∙ ap (λ l. f y ∷ l) (map-take_more f xs i x h)

-- a number of a range
pub range_known : (a n k t : ℕ) → slice_get (range_with_len a n) k ≡ Some t → (a ≤ t) × (t < a + n)
range_known a zero k t h = absurd cc
range_known a (suc n) zero t h = let e : a ≡ t = cc in (omega (arith, e), omega (arith, e))
range_known a (suc n) (suc k) t h = let r = range_known (a + 1) n k t h in (omega (arith, r.0), omega (arith, r.1))
