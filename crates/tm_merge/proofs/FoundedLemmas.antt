-- What refusals say is so.
use Rattle.std.proofs.Common.{◌≡◌, ℕ, suc, ◌-◌, ◌≤◌, true, false, ◌==◌, ◌&&◌, nat_lt, ◌⊎◌, inl, inr, ⊎_elim, List, Option, Some, None, Contains, refl, sym, ap, subst, arith}
use Rattle.std.specs.Option.{option_or, option_map}
use Rattle.std.proofs.lemmas.Bool.{cases_Bool, cond-true, cond-false, eqb-true, eq-eqb, and_parts, and_from, or_left, or_right, ltb-false}
use Rattle.tm_base.specs.declared.events.Entry.{Entry}
use Rattle.tm_base.specs.Orders.{IsDirect}
use Rattle.tm_merge.specs.declared.refusals.Refused.TheVariants as refused
use Rattle.tm_merge.specs.MergerViews.{MergerView, arrived}
use Rattle.tm_merge.specs.Places.{at_place, at_object}
use Rattle.tm_merge.specs.Refusals.{range_fault, twice, clash_before, clash_after, clash_in_thread, clash_at_object, clash, SharePlace, BreakRise, IsFounded, RefusalsAreFounded}
use Rattle.tm_merge.proofs.OrderLemmas.{find-element}
use Rattle.tm_merge.proofs.RefusalLemmas.{InRange, in_range, map_none}

or_some : {A : Type 0} (o p : Option A) (x : A) → option_or o p ≡ Some x → (o ≡ Some x) ⊎ ((o ≡ None) × (p ≡ Some x))
or_some None p x h = inr (refl, h)
or_some (Some y) p x h = inl h

map_some : {A B : Type 0} (f : A → B) (o : Option A) (y : B) → option_map f o ≡ Some y → (x : A) × (o ≡ Some x) × (f x ≡ y)
map_some f None y h = absurd cc
map_some f (Some x) y h = (x, refl, cc)

before_clashes : (o : Option Entry) (e a : Entry) → clash_before o e ≡ Some a → (o ≡ Some a) × (e.stamp ≤ a.stamp)
before_clashes None e a h = absurd cc
before_clashes (Some x) e a h = ⊎_elim
    (λ (below : nat_lt x.stamp e.stamp ≡ true). let none = cond-true (nat_lt x.stamp e.stamp) None (Some x) below in absurd cc)
    (λ (above : nat_lt x.stamp e.stamp ≡ false).
    let some = cond-false (nat_lt x.stamp e.stamp) None (Some x) above in
    let same : x ≡ a = cc in
    (ap Some same, subst (λ (y : Entry). e.stamp ≤ y.stamp) same (ltb-false x.stamp e.stamp above)))
    (cases_Bool (nat_lt x.stamp e.stamp))

after_clashes : (o : Option Entry) (e b : Entry) → clash_after o e ≡ Some b → (o ≡ Some b) × (b.stamp ≤ e.stamp)
after_clashes None e b h = absurd cc
after_clashes (Some x) e b h = ⊎_elim
    (λ (above : nat_lt e.stamp x.stamp ≡ true). let none = cond-true (nat_lt e.stamp x.stamp) None (Some x) above in absurd cc)
    (λ (below : nat_lt e.stamp x.stamp ≡ false).
    let some = cond-false (nat_lt e.stamp x.stamp) None (Some x) below in
    let same : x ≡ b = cc in
    (ap Some same, subst (λ (y : Entry). y.stamp ≤ e.stamp) same (ltb-false e.stamp x.stamp below)))
    (cases_Bool (nat_lt e.stamp x.stamp))

-- an event that is found has that place
at_place-is : (es : List Entry) (t p : ℕ) (a : Entry) → at_place es t p ≡ Some a → Contains es a × (a.thread ≡ t) × (a.place ≡ p)
at_place-is es t p a h =
    let element = find-element (λ e. e.thread == t && e.place == p) es a h in
    let both = and_parts (a.thread == t) (a.place == p) element.1 in
    (element.0, eqb-true a.thread t both.0, eqb-true a.place p both.1)

at_object-is : (es : List Entry) (o n : ℕ) (a : Entry) → at_object es o n ≡ Some a → Contains es a × (a.object ≡ o) × (a.at ≡ n)
at_object-is es o n a h =
    let element = find-element (λ e. e.object == o && e.at == n) es a h in
    let both = and_parts (a.object == o) (a.at == n) element.1 in
    (element.0, eqb-true a.object o both.0, eqb-true a.at n both.1)

direct_in_thread : (a b : Entry) → a.thread ≡ b.thread → suc a.place ≡ b.place → IsDirect a b
direct_in_thread a b threads places = or_left (a.thread == b.thread && suc a.place == b.place) (a.object == b.object && suc a.at == b.at)
    (and_from (a.thread == b.thread) (suc a.place == b.place) (eq-eqb a.thread b.thread threads) (eq-eqb (suc a.place) b.place places))

direct_at_object : (a b : Entry) → a.object ≡ b.object → suc a.at ≡ b.at → IsDirect a b
direct_at_object a b objects ats = or_right (a.thread == b.thread && suc a.place == b.place) (a.object == b.object && suc a.at == b.at)
    (and_from (a.object == b.object) (suc a.at == b.at) (eq-eqb a.object b.object objects) (eq-eqb (suc a.at) b.at ats))

twice_is : (v : MergerView) (e kept : Entry) → twice v e ≡ Some kept → Contains (arrived v) kept × SharePlace kept e
twice_is v e kept h = ⊎_elim
    (λ (thread : at_place (arrived v) e.thread e.place ≡ Some kept).
    let is = at_place-is (arrived v) e.thread e.place kept thread in
    (is.0, inl (is.1, is.2)))
    (λ object.
    let is = at_object-is (arrived v) e.object e.at kept object.1 in
    (is.0, inr (is.1, is.2)))
    (or_some (at_place (arrived v) e.thread e.place) (at_object (arrived v) e.object e.at) kept h)

clash_is : (v : MergerView) (e kept : Entry) → InRange v e → clash v e ≡ Some kept → Contains (arrived v) kept × BreakRise kept e
clash_is v e kept range h = ⊎_elim
    (λ (thread : clash_in_thread v e ≡ Some kept). ⊎_elim
    (λ before.
    let facts = before_clashes (at_place (arrived v) e.thread (e.place - 1)) e kept before in
    let is = at_place-is (arrived v) e.thread (e.place - 1) kept facts.0 in
    let place = is.2 in
    let positive = range.place in
    (is.0, inl (direct_in_thread kept e is.1 (omega (arith, place, positive)), facts.1)))
    (λ after.
    let facts = after_clashes (at_place (arrived v) e.thread (suc e.place)) e kept after.1 in
    let is = at_place-is (arrived v) e.thread (suc e.place) kept facts.0 in
    (is.0, inr (direct_in_thread e kept (sym is.1) (sym is.2), facts.1)))
    (or_some (clash_before (at_place (arrived v) e.thread (e.place - 1)) e) (clash_after (at_place (arrived v) e.thread (suc e.place)) e) kept thread))
    (λ object. ⊎_elim
    (λ before.
    let facts = before_clashes (at_object (arrived v) e.object (e.at - 1)) e kept before in
    let is = at_object-is (arrived v) e.object (e.at - 1) kept facts.0 in
    let at = is.2 in
    let positive = range.at in
    (is.0, inl (direct_at_object kept e is.1 (omega (arith, at, positive)), facts.1)))
    (λ after.
    let facts = after_clashes (at_object (arrived v) e.object (suc e.at)) e kept after.1 in
    let is = at_object-is (arrived v) e.object (suc e.at) kept facts.0 in
    (is.0, inr (direct_at_object e kept (sym is.1) (sym is.2), facts.1)))
    (or_some (clash_before (at_object (arrived v) e.object (e.at - 1)) e) (clash_after (at_object (arrived v) e.object (suc e.at)) e) kept object.1))
    (or_some (clash_in_thread v e) (clash_at_object v e) kept h)

pub founded : RefusalsAreFounded
founded v e r h = ⊎_elim
    (λ (range : option_map refused.OutOfRange (range_fault v e) ≡ Some r).
    let field = map_some refused.OutOfRange (range_fault v e) r range in
    subst (IsFounded v e) field.2 field.1)
    (λ later. ⊎_elim
    (λ (again : option_map (λ kept. refused.TwicePlace kept e) (twice v e) ≡ Some r).
    let kept = map_some (λ k. refused.TwicePlace k e) (twice v e) r again in
    let facts = twice_is v e kept.0 kept.1 in
    subst (IsFounded v e) kept.2 (refl, facts.0, facts.1))
    (λ last.
    let kept = map_some (λ k. refused.StampOrder k e) (clash v e) r last.1 in
    let facts = clash_is v e kept.0 (in_range v e (map_none refused.OutOfRange (range_fault v e) later.0)) kept.1 in
    subst (IsFounded v e) kept.2 (refl, facts.0, facts.1))
    (or_some (option_map (λ kept. refused.TwicePlace kept e) (twice v e)) (option_map (λ kept. refused.StampOrder kept e) (clash v e)) r later.1))
    (or_some (option_map refused.OutOfRange (range_fault v e)) (option_or (option_map (λ kept. refused.TwicePlace kept e) (twice v e)) (option_map (λ kept. refused.StampOrder kept e) (clash v e))) r h)
