-- Events can be sorted by stamp and then thread number.
use Rattle.std.proofs.Common.{◌≡◌, zero, suc, ◌<◌, ◌≤◌, inl, inr, ◌⊎◌, ⊎_elim, List, [], ◌∷◌, Contains, subst, sym, arith}
use Rattle.std.specs.Prelude.{IsPermutation}
use Rattle.std.proofs.lemmas.Bool.{cases_lt, cases_order}
use Rattle.std.proofs.lemmas.List.Elements.{Contains-get_or}
use Rattle.std.proofs.lemmas.List.Sorted.{Contains-permutation, IsPermutation-cons, IsPermutation-middle, IsPermutation-refl, IsPermutation-sym, IsPermutation-trans}
use Rattle.tm_base.specs.declared.events.Entry.{Entry}
use Rattle.tm_base.specs.Orders.{IsNotLater}
use Rattle.tm_replay.proofs.SliceLemmas.{Contains-first}
use Rattle.tm_order.specs.StampOrder.{IsInStampOrder}
use Rattle.tm_order.proofs.Elements.{Contains-none}

not_later-total : (a b : Entry) → IsNotLater a b ⊎ IsNotLater b a
not_later-total a b = ⊎_elim
    (λ (tie : a.stamp ≡ b.stamp). ⊎_elim
    (λ (less : a.thread < b.thread). inl (inr (tie, omega (arith, less))))
    (λ (least : b.thread ≤ a.thread). inr (inr (sym tie, least)))
    (cases_lt a.thread b.thread))
    (λ (apart : (a.stamp < b.stamp) ⊎ (b.stamp < a.stamp)). ⊎_elim (λ (less : a.stamp < b.stamp). inl (inl less)) (λ (more : b.stamp < a.stamp). inr (inl more)) apart)
    (cases_order a.stamp b.stamp)

not_later-trans : (a b c : Entry) → IsNotLater a b → IsNotLater b c → IsNotLater a c
not_later-trans a b c (inl less) (inl less') = inl (omega (arith, less, less'))
not_later-trans a b c (inl less) (inr tie) = inl (omega (arith, less, tie.0))
not_later-trans a b c (inr tie) (inl less) = inl (omega (arith, less, tie.0))
not_later-trans a b c (inr tie) (inr tie') = inr (omega (arith, tie.0, tie'.0), omega (arith, tie.1, tie'.1))

-- each event isn't later than those behind it
abbrev IsSortedList : List Entry → Type 0
IsSortedList [] = Unit {0}
IsSortedList (e ∷ es) = ((a : Entry) → Contains es a → IsNotLater e a) × IsSortedList es

abbrev Sorted : List Entry → Type 0
Sorted es = (order : List Entry) × IsPermutation es order × IsSortedList order

inserted : (e : Entry) (es : List Entry) → IsSortedList es → Sorted (e ∷ es)
inserted e [] sorted = (e ∷ [], IsPermutation-refl (e ∷ []), ((λ a within. absurd (Contains-none a within)), tt))
inserted e (f ∷ es) sorted = ⊎_elim
    (λ (first : IsNotLater e f). (
      e ∷ (f ∷ es),
      IsPermutation-refl (e ∷ (f ∷ es)),
      (
        (λ a within. ⊎_elim
            (λ (same : a ≡ f). subst (IsNotLater e) (sym same) first)
            (λ (later : Contains es a). not_later-trans e f a first (sorted.0 a later))
            (Contains-first f es a within)),
        sorted,
      ),
    ))
    (λ (behind : IsNotLater f e).
    let others = inserted e es sorted.1 in
    let moved : IsPermutation (e ∷ (f ∷ es)) (f ∷ others.0) =
    IsPermutation-trans (e ∷ (f ∷ es)) (f ∷ (e ∷ es)) (f ∷ others.0) (IsPermutation-middle (e ∷ []) f es) (IsPermutation-cons f (e ∷ es) others.0 others.1) in (
      f ∷ others.0,
      moved,
      (
        (λ a within. ⊎_elim
            (λ (same : a ≡ e). subst (IsNotLater f) (sym same) behind)
            (λ (later : Contains es a). sorted.0 a later)
            (Contains-first e es a (Contains-permutation others.0 (e ∷ es) a (IsPermutation-sym (e ∷ es) others.0 others.1) within))),
        others.2,
      ),
    ))
    (not_later-total e f)

sorted-all : (es : List Entry) → Sorted es
sorted-all [] = ([], IsPermutation-refl [], tt)
sorted-all (e ∷ es) =
    let others = sorted-all es in
    let whole = inserted e others.0 others.2 in
    (whole.0, IsPermutation-trans (e ∷ es) (e ∷ others.0) whole.0 (IsPermutation-cons e es others.0 others.1) whole.1, whole.2)

sorted-pairs : (es : List Entry) → IsSortedList es → IsInStampOrder es
sorted-pairs [] sorted i k d less within = absurd (omega (arith, within))
sorted-pairs (e ∷ es) sorted zero zero d less within = absurd (omega (arith, less))
sorted-pairs (e ∷ es) sorted (suc i) zero d less within = absurd (omega (arith, less))
sorted-pairs (e ∷ es) sorted zero (suc k) d less within = sorted.0 _ (Contains-get_or es k d (omega (arith, within)))
sorted-pairs (e ∷ es) sorted (suc i) (suc k) d less within = sorted-pairs es sorted.1 i k d (omega (arith, less)) (omega (arith, within))

pub sorted-order : (es : List Entry) → (order : List Entry) × IsPermutation es order × IsInStampOrder order
sorted-order es = let all = sorted-all es in (all.0, all.1, sorted-pairs all.0 all.2)
