-- Events that a merger takes one after the other.
use Rattle.std.proofs.Common.{◌≡◌, ℕ, suc, ◌+◌, ◌-◌, ◌<◌, ◌==◌, ◌&&◌, ⊎_elim, List, [], ◌∷◌, ◌++◌, length, get_or, take, drop, drop-cons, Some, None, Err, Contains, sym, ap, ◌∙◌, subst}
use Rattle.std.specs.Prelude.{IsPermutation}
use Rattle.std.proofs.lemmas.Bool.{eqb-true, and_parts}
use Rattle.std.proofs.lemmas.List.{take_more, take-append-drop}
use Rattle.std.proofs.lemmas.List.Sorted.{IsPermutation-refl, IsPermutation-push_more}
use Rattle.tm_base.specs.declared.events.Entry.{Entry}
use Rattle.tm_text.specs.Exercises.{ExerciseView}
use Rattle.tm_merge.specs.declared.refusals.Refused.{Refused}
use Rattle.tm_merge.specs.declared.refusals.Refused.TheVariants as refused
use Rattle.tm_merge.specs.MergerViews.{MergerView}
use Rattle.tm_merge.specs.Places.{at_place, at_object}
use Rattle.tm_merge.specs.Refusals.{refusal, stated}
use Rattle.tm_merge.specs.Showing.{Joins}
use Rattle.tm_merge.proofs.ListLemmas.{Contains-parts}
use Rattle.tm_merge.proofs.NumberingLemmas.{snoc-split}
use Rattle.tm_merge.proofs.RefusalLemmas.{accepted}
use Rattle.tm_order.specs.Interleavings.{AreInRange}
use Rattle.tm_trace.specs.Faults.{of_refusal}
use Rattle.tm_trace.specs.Offering.{holding, IsFirstRefusal, IsOffered, IsOfferFault, NoneIsRefused}
use Rattle.tm_trace.proofs.FindingLemmas.{found-same, own-one}

module _ (x : ExerciseView) (es : List Entry) (taken : NoneIsRefused x es) where
  -- none has the place of another one in its thread, or at its object
  own_places : (a b : Entry) → Contains es a → Contains es b → a.thread ≡ b.thread → a.place ≡ b.place → a ≡ b
  own_places = own-one (λ e. e.thread) (λ e. e.place) es (λ prefix back e parts. (accepted (holding x prefix) e (taken prefix back e parts)).new_place)

  own_ats : (a b : Entry) → Contains es a → Contains es b → a.object ≡ b.object → a.at ≡ b.at → a ≡ b
  own_ats = own-one (λ e. e.object) (λ e. e.at) es (λ prefix back e parts. (accepted (holding x prefix) e (taken prefix back e parts)).new_at)

  -- all of them are of the exercise
  pub taken-range : AreInRange x es
  taken-range e within =
      let cut = Contains-parts es e within in
      let fits = accepted (holding x cut.0) e (taken cut.0 cut.1 e cut.2) in
      (fits.thread, fits.object)

  module _ (fs : List Entry) (permutation : IsPermutation es fs) where
    same_place : (t p : ℕ) → at_place es t p ≡ at_place fs t p
    same_place t p = found-same (λ e. e.thread == t && e.place == p) es fs
        (λ a b first second passes also.
        let left = and_parts (a.thread == t) (a.place == p) passes in
        let right = and_parts (b.thread == t) (b.place == p) also in
        own_places a b first second (eqb-true a.thread t left.0 ∙ sym (eqb-true b.thread t right.0)) (eqb-true a.place p left.1 ∙ sym (eqb-true b.place p right.1)))
        permutation

    same_at : (o n : ℕ) → at_object es o n ≡ at_object fs o n
    same_at o n = found-same (λ e. e.object == o && e.at == n) es fs
        (λ a b first second passes also.
        let left = and_parts (a.object == o) (a.at == n) passes in
        let right = and_parts (b.object == o) (b.at == n) also in
        own_ats a b first second (eqb-true a.object o left.0 ∙ sym (eqb-true b.object o right.0)) (eqb-true a.at n left.1 ∙ sym (eqb-true b.at n right.1)))
        permutation

    -- in which order they arrived makes no difference to the next event
    pub same-refusal : (e : Entry) → refusal (holding x es) e ≡ refusal (holding x fs) e
    same-refusal e =
        let here = same_place e.thread e.place in
        let before = same_place e.thread (e.place - 1) in
        let after = same_place e.thread (suc e.place) in
        let at_here = same_at e.object e.at in
        let at_before = same_at e.object (e.at - 1) in
        let at_after = same_at e.object (suc e.at) in
        cc

-- one more event that isn't refused
taken-more : (x : ExerciseView) (es : List Entry) (e : Entry) → NoneIsRefused x es → refusal (holding x es) e ≡ None → NoneIsRefused x (es ++ e ∷ [])
taken-more x es e taken next prefix back b parts = ⊎_elim
    (λ (last : (prefix ≡ es) × (b ≡ e)). subst (λ (a : Entry). refusal (holding x prefix) a ≡ None) (sym last.1) (subst (λ (l : List Entry). refusal (holding x l) e ≡ None) (sym last.0) next))
    (λ earlier. taken prefix earlier.0 b earlier.1)
    (snoc-split es e prefix b back parts)

pub offered-none : (x : ExerciseView) (v : MergerView) → v ≡ holding x [] → IsOffered x [] v
offered-none x v same = record {
  none_refused = λ prefix back e parts. absurd (nothing prefix back e parts);
  events = [];
  permutation = IsPermutation-refl [];
  merger = same;
}
  where
    nothing : (prefix back : List Entry) (e : Entry) → [] ≡ prefix ++ e ∷ back → ⊥
    nothing [] back e parts = cc
    nothing (a ∷ prefix) back e parts = cc

abbrev view : (threads objects : ℕ) (shown held : List Entry) → MergerView
view threads objects shown held = record { threads = threads; objects = objects; shown = shown; held = held }

viewed : (w : MergerView) (x : ExerciseView) → w.threads ≡ length x.programs → w.objects ≡ length x.objects → w.shown ≡ [] → w ≡ holding x w.held
viewed w x threads objects shown =
    ap (λ n. view n w.objects w.shown w.held) threads ∙ ap (λ n. view (length x.programs) n w.shown w.held) objects
    ∙ ap (λ (l : List Entry). view (length x.programs) (length x.objects) l w.held) shown

module _ (x : ExerciseView) (es : List Entry) (v : MergerView) (offered : IsOffered x es v) (e : Entry) where
  here : refusal (holding x es) e ≡ refusal v e
  here = same-refusal x es offered.none_refused offered.events offered.permutation e ∙ ap (λ (w : MergerView). refusal w e) (sym offered.merger)

  pub offered-snoc : (w : MergerView) → refusal v e ≡ None → Joins v e w → IsOffered x (es ++ e ∷ []) w
  offered-snoc w fits joins =
      let threads = joins.same_threads ∙ ap (λ (u : MergerView). u.threads) offered.merger in
      let objects = joins.same_objects ∙ ap (λ (u : MergerView). u.objects) offered.merger in
      let shown = joins.shown ∙ ap (λ (u : MergerView). u.shown) offered.merger in
      record {
        none_refused = taken-more x es e offered.none_refused (here ∙ fits);
        events = w.held;
        permutation = IsPermutation-push_more es v.held w.held e
            (subst (λ (u : MergerView). IsPermutation es u.held) (sym offered.merger) offered.permutation) joins.held;
        merger = viewed w x threads objects shown;
      }

  first_refusal : (back all : List Entry) (r : Refused) → all ≡ es ++ e ∷ back → refusal v e ≡ Some r → IsFirstRefusal x all r
  first_refusal back all r parts judged = record {
    prefix = es;
    entry = e;
    back = back;
    parts = parts;
    none_before = offered.none_refused;
    refused = here ∙ judged;
  }

  pub refused-here : (T : Type 0) (back all : List Entry) (r : Refused) → all ≡ es ++ e ∷ back → stated {T = T} (Err r) ≡ refusal v e → IsOfferFault x all (of_refusal r)
  refused-here T back all (refused.TwicePlace a b) parts judged = first_refusal back all (refused.TwicePlace a b) parts (sym judged)
  refused-here T back all (refused.StampOrder a b) parts judged = first_refusal back all (refused.StampOrder a b) parts (sym judged)
  refused-here T back all (refused.OutOfRange f) parts judged = first_refusal back all (refused.OutOfRange f) parts (sym judged)
  refused-here T back all refused.NoMemory parts judged = tt

-- the events up to a place of the list, and the one there
module _ (x : ExerciseView) (es : List Entry) (i : ℕ) (d : Entry) (v : MergerView) (offered : IsOffered x (take i es) v) (within : i < length es) where
  pub offered-next : (w : MergerView) → Joins v (get_or es i d) w → refusal v (get_or es i d) ≡ None → IsOffered x (take (i + 1) es) w
  offered-next w joins fits =
      subst (λ (l : List Entry). IsOffered x l w) (sym (take_more es i d within)) (offered-snoc x (take i es) v offered (get_or es i d) w fits joins)

  pub refused-next : (T : Type 0) (r : Refused) → stated {T = T} (Err r) ≡ refusal v (get_or es i d) → IsOfferFault x es (of_refusal r)
  refused-next T r judged =
      let parts : es ≡ take i es ++ get_or es i d ∷ drop (suc i) es = sym (take-append-drop i es) ∙ ap (λ (l : List Entry). take i es ++ l) (drop-cons es i d within) in
      refused-here x (take i es) v offered (get_or es i d) T (drop (suc i) es) es r parts judged
