-- The events in the slots that are taken.
use Rattle.std.proofs.Common.{◌≡◌, ℕ, zero, suc, Bool, true, false, ⊎_elim, List, [], ◌∷◌, ◌++◌, find, Option, Some, None, slice_get, slice_set, Contains, refl, sym, ap, ◌∙◌, subst, arith}
use Rattle.std.specs.List.Sorted.{IsPermutation}
use Rattle.std.proofs.lemmas.Bool.{cases_Bool, cond-true, cond-false}
use Rattle.std.proofs.lemmas.List.Elements.{filter_map-append}
use Rattle.std.proofs.lemmas.List.Sorted.{IsPermutation-refl, IsPermutation-cons, IsPermutation-trans, IsPermutation-middle}
use Rattle.tm_base.specs.declared.events.Entry.{Entry}
use Rattle.tm_merge.specs.StoredArrivals.{occupants}
use Rattle.tm_merge.proofs.ListLemmas.{Contains-first, Contains-rest}

pub occupants-snoc : (ss : List (Option Entry)) (e : Entry) → occupants (ss ++ Some e ∷ []) ≡ occupants ss ++ e ∷ []
occupants-snoc ss e = filter_map-append (λ s. s) ss (Some e ∷ [])

-- two elements change places
swapped : (a b : Entry) (xs : List Entry) → IsPermutation (a ∷ b ∷ xs) (b ∷ a ∷ xs)
swapped a b xs = IsPermutation-middle (a ∷ []) b xs

-- a slot is freed: its event leaves
pub occupants-free : (ss : List (Option Entry)) (s : ℕ) (e : Entry) → slice_get ss s ≡ Some (Some e) → IsPermutation (occupants ss) (e ∷ occupants (slice_set ss s None))
occupants-free [] s e h = absurd cc
occupants-free (None ∷ ss) zero e h = absurd cc
occupants-free (Some x ∷ ss) zero e h = let same : x ≡ e = cc in subst (λ y. IsPermutation (x ∷ occupants ss) (y ∷ occupants ss)) same (IsPermutation-refl (x ∷ occupants ss))
occupants-free (None ∷ ss) (suc s) e h = occupants-free ss s e h
occupants-free (Some x ∷ ss) (suc s) e h =
    IsPermutation-trans _ _ _ (IsPermutation-cons x _ _ (occupants-free ss s e h)) (swapped x e (occupants (slice_set ss s None)))

-- an event that is held has a slot, and each slot's event is held
pub slot_of : (ss : List (Option Entry)) (e : Entry) → Contains (occupants ss) e → (s : ℕ) × (slice_get ss s ≡ Some (Some e))
slot_of [] e h = absurd (omega (arith, h.1))
slot_of (None ∷ ss) e h = let rest = slot_of ss e h in (suc rest.0, rest.1)
slot_of (Some x ∷ ss) e h = ⊎_elim
    (λ (same : e ≡ x). (zero, ap (λ y. Some (Some y)) (sym same)))
    (λ (after : Contains (occupants ss) e). let rest = slot_of ss e after in (suc rest.0, rest.1))
    (Contains-first x (occupants ss) e h)

pub held_in : (ss : List (Option Entry)) (s : ℕ) (e : Entry) → slice_get ss s ≡ Some (Some e) → Contains (occupants ss) e
held_in [] s e h = absurd cc
held_in (None ∷ ss) zero e h = absurd cc
held_in (Some x ∷ ss) zero e h = (zero, omega arith, cc)
held_in (None ∷ ss) (suc s) e h = held_in ss s e h
held_in (Some x ∷ ss) (suc s) e h = Contains-rest x (occupants ss) e (held_in ss s e h)

-- no slot's event passes the test
pub find-none : (p : Entry → Bool) (ss : List (Option Entry)) → ((s : ℕ) (e : Entry) → slice_get ss s ≡ Some (Some e) → p e ≡ true → ⊥) → find p (occupants ss) ≡ None
find-none p [] none = refl
find-none p (None ∷ ss) none = find-none p ss (λ s. none (suc s))
find-none p (Some x ∷ ss) none = ⊎_elim
    (λ (passes : p x ≡ true). absurd (none zero x refl passes))
    (λ (fails : p x ≡ false). cond-false (p x) (Some x) (find p (occupants ss)) fails ∙ find-none p ss (λ s. none (suc s)))
    (cases_Bool (p x))

-- just one slot's event passes the test
pub find-one : (p : Entry → Bool) (ss : List (Option Entry)) (s : ℕ) (e : Entry) → slice_get ss s ≡ Some (Some e) → p e ≡ true
    → ((r : ℕ) (d : Entry) → slice_get ss r ≡ Some (Some d) → p d ≡ true → r ≡ s) → find p (occupants ss) ≡ Some e
find-one p [] s e h passes one = absurd cc
find-one p (None ∷ ss) zero e h passes one = absurd cc
find-one p (Some x ∷ ss) zero e h passes one =
    let same : x ≡ e = cc in
    let here : p x ≡ true = ap p same ∙ passes in
    cond-true (p x) (Some x) (find p (occupants ss)) here ∙ ap Some same
find-one p (None ∷ ss) (suc s) e h passes one = find-one p ss s e h passes (λ r d at pass. let next = one (suc r) d at pass in omega (arith, next))
find-one p (Some x ∷ ss) (suc s) e h passes one = ⊎_elim
    (λ (pass : p x ≡ true). absurd (let first = one zero x refl pass in omega (arith, first)))
    (λ (fails : p x ≡ false). cond-false (p x) (Some x) (find p (occupants ss)) fails ∙ find-one p ss s e h passes (λ r d at pass. let next = one (suc r) d at pass in omega (arith, next)))
    (cases_Bool (p x))
