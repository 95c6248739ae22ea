-- The held event stands in the trace, and so does the last one of the walk, which names the missing place.
use Rattle.std.proofs.Common.{◌≡◌, ◌-◌, Bool, true, false, ◌==◌, ◌&&◌, cond, ◌⊎◌, inl, inr, ⊎_elim, List, Option, Some, None, Contains, subst, sym}
use Rattle.std.specs.Option.{option_or}
use Rattle.std.proofs.lemmas.List.Elements.{Contains-append_right}
use Rattle.std.proofs.lemmas.List.Sorted.{Contains-permutation, IsPermutation-sym}
use Rattle.tm_base.specs.declared.events.Entry.{Entry}
use Rattle.tm_laws.proofs.RunsLemmas.{Leads-keeps}
use Rattle.tm_text.specs.Exercises.{ExerciseView}
use Rattle.tm_timeline.specs.TraceableEvents.{IsTraceable}
use Rattle.tm_merge.specs.declared.holds.Hold.{Hold}
use Rattle.tm_merge.specs.declared.holds.Missing.{Missing}
use Rattle.tm_merge.specs.declared.holds.Missing.TheVariants as missing
use Rattle.tm_merge.specs.Holding.{gap, WaitsFor}
use Rattle.tm_merge.specs.MergerViews.{MergerView, arrived}
use Rattle.tm_merge.specs.Places.{at_place, at_object, has_place, has_at}
use Rattle.tm_merge.proofs.OrderLemmas.{find-element}
use Rattle.tm_trace.specs.Merging.{IsFirstHold}
use Rattle.tm_trace.specs.Traces.{AreTraceable}
use Rattle.tm_trace.proofs.MergingLemmas.{merged-arrived}
use Rattle.tm_refusal_lines.specs.KnownNames.{IsHoldOf, IsPlaceOf}

-- what is taken of two that may be there is one of them
one_of : {A : Type 0} (o p : Option A) (x : A) → option_or o p ≡ Some x → (o ≡ Some x) ⊎ (p ≡ Some x)
one_of None p x h = inr h
one_of (Some y) p x h = inl h

-- an event waits for one that is held
waits-held : (v : MergerView) (e a b : Entry) → WaitsFor v e a b → Contains v.held b
waits-held v e a b waits = subst (Contains v.held) (sym waits.here) (⊎_elim
    (λ (before : at_place v.held e.thread (e.place - 1) ≡ Some a). (find-element (λ x. x.thread == e.thread && x.place == e.place - 1) v.held a before).0)
    (λ (before : at_object v.held e.object (e.at - 1) ≡ Some a). (find-element (λ x. x.object == e.object && x.at == e.at - 1) v.held a before).0)
    (one_of (at_place v.held e.thread (e.place - 1)) (at_object v.held e.object (e.at - 1)) a waits.first))

-- the gap before an event is in its thread, or at its object
gap-names : (x : ExerciseView) (v : MergerView) (e : Entry) (m : Missing) → IsTraceable x e → gap v e ≡ Some m → IsPlaceOf x m
gap-names x v e m said h = go (has_place (arrived v) e.thread (e.place - 1)) (has_at (arrived v) e.object (e.at - 1)) h
  where
    go : (a b : Bool) → cond a (cond b None (Some (missing.Object e.object (e.at - 1)))) (Some (missing.Thread e.thread (e.place - 1))) ≡ Some m → IsPlaceOf x m
    go true true h = absurd cc
    go true false h = let same : missing.Object e.object (e.at - 1) ≡ m = cc in subst (IsPlaceOf x) same said.object
    go false b h = let same : missing.Thread e.thread (e.place - 1) ≡ m = cc in subst (IsPlaceOf x) same said.thread

module _ (x : ExerciseView) (es : List Entry) (hold : Hold) (traceable : AreTraceable x es) (first : IsFirstHold x es hold) where
  abbrev v : MergerView
  v = first.merger

  said : (a : Entry) → Contains v.held a → IsTraceable x a
  said a there =
      traceable a (Contains-permutation (arrived v) es a (IsPermutation-sym es (arrived v) (merged-arrived x es v first.merged)) (Contains-append_right v.shown v.held a there))

  last : Contains v.held first.missing.last
  last = Leads-keeps (WaitsFor v) (Contains v.held) (λ p a q held waits. waits-held v p a q waits)
      first.missing.walk hold.entry first.missing.last first.first.held first.missing.steps

  pub held-names : IsHoldOf x hold
  held-names = (said hold.entry first.first.held, gap-names x v first.missing.last hold.missing (said first.missing.last last) first.missing.gap)
