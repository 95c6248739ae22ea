-- Events that are sorted by stamp and thread.
use Rattle.std.proofs.Common.{◌≡◌, ℕ, suc, ◌+◌, ◌<◌, ◌≤◌, Bool, true, false, cond, ◌==◌, nat_lt, ◌⊎◌, inl, inr, ⊎_elim, List, [], ◌∷◌, get_or, Contains, sym, ap, ◌∙◌, subst, arith}
use Rattle.std.specs.List.Sorted.{IsSortedBy}
use Rattle.std.specs.Ordering.{is_lt, nat_cmp, ordering_then}
use Rattle.std.specs.declared.cmp.Ordering.TheVariants.{Less, Equal, Greater}
use Rattle.std.proofs.lemmas.Bool.{cases_Bool, cond-true, cond-false, eqb-true, eqb-false, ltb-false}
use Rattle.tm_base.specs.declared.events.Entry.{Entry}
use Rattle.tm_base.specs.Orders.{IsNotLater}
use Rattle.tm_merge.specs.Rising.{IsRising}
use Rattle.tm_merge.proofs.ListLemmas.{Contains-first}
use Rattle.tm_merge.proofs.ReadyThreadsLemmas.{sooner_still}

-- the test of a sort by stamp and thread
abbrev pub comes_first : Entry → Entry → Bool
comes_first x y = is_lt (ordering_then (nat_cmp x.stamp y.stamp) (nat_cmp x.thread y.thread))

not_before : (s t j k : ℕ) → is_lt (ordering_then (nat_cmp t s) (nat_cmp k j)) ≡ false → (s < t) ⊎ ((s ≡ t) × (j ≤ k))
not_before s t j k h = ⊎_elim
    (λ (less : nat_lt t s ≡ true).
    let first : nat_cmp t s ≡ Less = cond-true (nat_lt t s) Less (cond (t == s) Equal Greater) less in
    let yes = ap (λ o. is_lt (ordering_then o (nat_cmp k j))) first in
    absurd cc)
    (λ (more : nat_lt t s ≡ false). ⊎_elim
    (λ (tie : (t == s) ≡ true).
    let first : nat_cmp t s ≡ Equal = cond-false (nat_lt t s) Less (cond (t == s) Equal Greater) more ∙ cond-true (t == s) Equal Greater tie in
    let second : is_lt (nat_cmp k j) ≡ false = sym (ap (λ o. is_lt (ordering_then o (nat_cmp k j))) first) ∙ h in
    let same = eqb-true t s tie in
    inr (
      sym same,
      ⊎_elim
          (λ (less : nat_lt k j ≡ true). let yes = ap is_lt (cond-true (nat_lt k j) Less (cond (k == j) Equal Greater) less) in absurd cc)
          (λ (later : nat_lt k j ≡ false). ltb-false k j later)
          (cases_Bool (nat_lt k j)),
    ))
    (λ (other : (t == s) ≡ false).
    let apart = eqb-false t s other in
    let at_least = ltb-false t s more in
    inl (omega (arith, apart, at_least)))
    (cases_Bool (t == s)))
    (cases_Bool (nat_lt t s))

pub rising_from_sorted : (es : List Entry) → IsSortedBy comes_first es → IsRising es
rising_from_sorted [] sorted = tt
rising_from_sorted (e ∷ []) sorted = ((λ x h. absurd (omega (arith, h.1))), tt)
rising_from_sorted (e ∷ f ∷ es) sorted =
    let later = rising_from_sorted (f ∷ es) (λ k d low high.
    let next : suc k + 1 ≡ suc (k + 1) = omega arith in
    subst (λ n. comes_first (get_or (e ∷ f ∷ es) n d) (get_or (e ∷ f ∷ es) (suc k) d) ≡ false) next (sorted (suc k) d (omega arith) (omega (arith, high)))) in
    let next : IsNotLater e f = not_before e.stamp f.stamp e.thread f.thread (sorted 0 e (omega arith) (omega arith)) in (
      (λ x h. ⊎_elim
          (λ (same : x ≡ f). subst (IsNotLater e) (sym same) next)
          (λ (after : Contains es x). sooner_still e f x next (later.0 x after))
          (Contains-first f es x h)),
      later,
    )
