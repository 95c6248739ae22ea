-- The next event of a joint run is taken by a merger that has shown all before it, and shown alone.
use Rattle.std.proofs.Common.{◌≡◌, ℕ, ◌<◌, ◌≤◌, true, false, ⊎_elim, List, [], ◌∷◌, ◌++◌, Contains, Option, Some, None, refl, ap, sym, ◌∙◌, subst, arith}
use Rattle.std.specs.List.Sorted.{IsPermutation}
use Rattle.std.proofs.lemmas.Bool.Decides.{nat_tests}
use Rattle.std.proofs.lemmas.List.Sorted.{Contains-permutation, length_permutation}
use Rattle.tm_base.specs.declared.events.Entry.{Entry}
use Rattle.tm_base.specs.Runs.{Leads}
use Rattle.tm_merge.specs.declared.refusals.Refused.{Refused}
use Rattle.tm_merge.specs.declared.refusals.Refused.TheVariants as refused
use Rattle.tm_merge.specs.MergerViews.{MergerView, arrived}
use Rattle.tm_merge.specs.Places.{has_predecessors}
use Rattle.tm_merge.specs.Refusals.{range_fault, refusal, SharePlace, BreakRise, IsFounded}
use Rattle.tm_merge.specs.Showing.{Shows, IsSettled, Settles}
use Rattle.tm_merge.proofs.FoundedLemmas.{founded}
use Rattle.tm_merge.proofs.ListLemmas.{Contains-first}

-- an event with all its numbers in range
pub unfaulted : (v : MergerView) (e : Entry) → e.thread ≤ v.threads → e.object < v.objects → 0 < e.place → 0 < e.at → 0 < e.stamp → range_fault v e ≡ None
unfaulted v e thread object place at stamp = grind (arith, nat_tests)

-- an event with its numbers in range that shares no place, and breaks no rise of stamps, isn't refused
module _ (v : MergerView) (e : Entry) (range : range_fault v e ≡ None) (own : (a : Entry) → Contains (arrived v) a → SharePlace a e → ⊥)
    (rises : (a : Entry) → Contains (arrived v) a → BreakRise a e → ⊥) where
  unfounded : (r : Refused) → IsFounded v e r → ⊥
  unfounded (refused.OutOfRange f) h = let both : None ≡ Some f = sym range ∙ h in cc
  unfounded (refused.TwicePlace kept new) h = own kept h.1 h.2
  unfounded (refused.StampOrder kept new) h = rises kept h.1 h.2
  unfounded refused.NoMemory h = h

  pub not-refused : refusal v e ≡ None
  not-refused = go (refusal v e) refl
    where
      go : (r : Option Refused) → refusal v e ≡ r → r ≡ None
      go None h = refl
      go (Some r) h = absurd (unfounded r (founded v e r h))

only-element : (e : Entry) → Contains (e ∷ []) e
only-element e = (0, omega arith, refl)

-- one event in another order
pub one-permuted : (e : Entry) (es : List Entry) → IsPermutation (e ∷ []) es → es ≡ e ∷ []
one-permuted e [] order =
    let long = length_permutation (e ∷ []) [] order in absurd (omega (arith, long))
one-permuted e (a ∷ []) order = ⊎_elim
    (λ (same : e ≡ a). ap (λ (d : Entry). d ∷ []) (sym same))
    (λ (later : Contains [] e). absurd (omega (arith, later.1)))
    (Contains-first a [] e (Contains-permutation (e ∷ []) (a ∷ []) e order (only-element e)))
one-permuted e (a ∷ b ∷ es) order =
    let long = length_permutation (e ∷ []) (a ∷ b ∷ es) order in absurd (omega (arith, long))

-- the event is shown, and none is held
pub record ShowsAlone (v : MergerView) (e : Entry) (w : MergerView) : Type 0 where
  pub shown : w.shown ≡ v.shown ++ e ∷ []
  pub held : w.held ≡ []

-- one held event that is ready is shown, and no other
module _ (v w : MergerView) (e : Entry) (held : v.held ≡ e ∷ []) (ready : has_predecessors v.shown e ≡ true) where
  first-shown : (a : Entry) (m : MergerView) → Shows v a m → (a ≡ e) × (m.held ≡ [])
  first-shown a m shows =
      let same : a ∷ m.held ≡ e ∷ [] = one-permuted e (a ∷ m.held) (subst (λ (l : List Entry). IsPermutation l (a ∷ m.held)) held shows.held) in
      let first : a ≡ e = cc in
      let rest : m.held ≡ [] = cc in (first, rest)

  alone : (news : List Entry) → Leads Shows v news w → IsSettled w → ShowsAlone v e w
  alone [] steps settled =
      let unready : has_predecessors v.shown e ≡ false = subst IsSettled steps settled e (subst (λ (l : List Entry). Contains l e) (sym held) (only-element e)) in
      absurd cc
  alone (a ∷ []) steps settled =
      let first = first-shown a steps.0 steps.1 in
      record {
        shown = ap (λ (m : MergerView). m.shown) steps.2 ∙ steps.1.shown ∙ ap (λ (d : Entry). v.shown ++ d ∷ []) first.0;
        held = ap (λ (m : MergerView). m.held) steps.2 ∙ first.1;
      }
  alone (a ∷ b ∷ news) steps settled =
      let first = first-shown a steps.0 steps.1 in
      let more : Contains [] b = subst (λ (l : List Entry). Contains l b) first.1 steps.2.1.next.ready.held in
      absurd (omega (arith, more.1))

  pub settles-alone : (n : ℕ) → Settles v n w → ShowsAlone v e w
  settles-alone n settles = alone settles.news settles.steps settles.settled
