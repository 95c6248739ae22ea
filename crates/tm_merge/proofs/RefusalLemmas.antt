-- What is known of an event that isn't refused.
use Rattle.std.proofs.Common.{◌≡◌, suc, ◌-◌, ◌<◌, ◌≤◌, true, false, cond, ◌==◌, ◌&&◌, nat_lt, ◌⊎◌, inl, inr, ⊎_elim, [], ◌∷◌, ◌++◌, Option, Some, None, Contains, refl, sym, ap, subst, arith}
use Rattle.std.specs.Option.{option_or, option_map}
use Rattle.std.proofs.lemmas.Bool.{cases_Bool, eqb-true, and_parts, or_cases, ltb-true}
use Rattle.std.proofs.lemmas.Bool.Decides.{nat_tests}
use Rattle.std.proofs.lemmas.List.Elements.{Contains-push_cases}
use Rattle.tm_base.specs.declared.events.Entry.{Entry}
use Rattle.tm_base.specs.Orders.{IsDirect, StampsRise}
use Rattle.tm_merge.specs.MergerViews.{MergerView, arrived}
use Rattle.tm_merge.specs.Places.{at_place, at_object}
use Rattle.tm_merge.specs.Refusals.{range_fault, twice, clash_before, clash_after, clash_in_thread, clash_at_object, clash, refusal}

or_left : {A : Type 0} (o p : Option A) → option_or o p ≡ None → o ≡ None
or_left None p h = refl
or_left (Some x) p h = h

or_right : {A : Type 0} (o p : Option A) → option_or o p ≡ None → p ≡ None
or_right None p h = h
or_right (Some x) p h = absurd cc

pub map_none : {A B : Type 0} (f : A → B) (o : Option A) → option_map f o ≡ None → o ≡ None
map_none f None h = refl
map_none f (Some x) h = absurd cc

before_rises : (o : Option Entry) (e a : Entry) → clash_before o e ≡ None → o ≡ Some a → a.stamp < e.stamp
before_rises None e a none is = absurd cc
before_rises (Some x) e a none is =
    let same : x ≡ a = cc in
    subst (λ (y : Entry). y.stamp < e.stamp) same (⊎_elim (λ (t : nat_lt x.stamp e.stamp ≡ true). ltb-true x.stamp e.stamp t)
    (λ (t : nat_lt x.stamp e.stamp ≡ false). let some : cond (nat_lt x.stamp e.stamp) None (Some x) ≡ Some x = ap (λ b. cond b None (Some x)) t in absurd cc) (cases_Bool (nat_lt x.stamp e.stamp)))

after_rises : (o : Option Entry) (e b : Entry) → clash_after o e ≡ None → o ≡ Some b → e.stamp < b.stamp
after_rises None e b none is = absurd cc
after_rises (Some x) e b none is =
    let same : x ≡ b = cc in
    subst (λ (y : Entry). e.stamp < y.stamp) same (⊎_elim (λ (t : nat_lt e.stamp x.stamp ≡ true). ltb-true e.stamp x.stamp t)
    (λ (t : nat_lt e.stamp x.stamp ≡ false). let some : cond (nat_lt e.stamp x.stamp) None (Some x) ≡ Some x = ap (λ b. cond b None (Some x)) t in absurd cc) (cases_Bool (nat_lt e.stamp x.stamp)))

-- An event that isn't refused has its numbers in range and its places for itself, and the stamps of its
-- neighbours rise.
pub record IsAccepted (v : MergerView) (e : Entry) : Type 0 where
  pub thread : e.thread ≤ v.threads
  pub object : e.object < v.objects
  pub place : 0 < e.place
  pub at : 0 < e.at
  pub new_place : at_place (arrived v) e.thread e.place ≡ None
  pub new_at : at_object (arrived v) e.object e.at ≡ None
  pub before_place : (a : Entry) → at_place (arrived v) e.thread (e.place - 1) ≡ Some a → a.stamp < e.stamp
  pub after_place : (b : Entry) → at_place (arrived v) e.thread (suc e.place) ≡ Some b → e.stamp < b.stamp
  pub before_at : (a : Entry) → at_object (arrived v) e.object (e.at - 1) ≡ Some a → a.stamp < e.stamp
  pub after_at : (b : Entry) → at_object (arrived v) e.object (suc e.at) ≡ Some b → e.stamp < b.stamp

pub record InRange (v : MergerView) (e : Entry) : Type 0 where
  pub thread : e.thread ≤ v.threads
  pub object : e.object < v.objects
  pub place : 0 < e.place
  pub at : 0 < e.at

pub in_range : (v : MergerView) (e : Entry) → range_fault v e ≡ None → InRange v e
in_range v e h = record {
  thread = grind (arith, nat_tests);
  object = grind (arith, nat_tests);
  place = grind (arith, nat_tests);
  at = grind (arith, nat_tests);
}

pub accepted : (v : MergerView) (e : Entry) → refusal v e ≡ None → IsAccepted v e
accepted v e h =
    let range = in_range v e (map_none _ (range_fault v e) (or_left _ _ h)) in
    let later = or_right _ _ h in
    let once = map_none _ (twice v e) (or_left _ _ later) in
    let rises = map_none _ (clash v e) (or_right _ _ later) in
    let in_thread = or_left (clash_in_thread v e) (clash_at_object v e) rises in
    let at_its_object = or_right (clash_in_thread v e) (clash_at_object v e) rises in
    let place_before = at_place (arrived v) e.thread (e.place - 1) in
    let place_after = at_place (arrived v) e.thread (suc e.place) in
    let at_before = at_object (arrived v) e.object (e.at - 1) in
    let at_after = at_object (arrived v) e.object (suc e.at) in
    record {
      thread = range.thread;
      object = range.object;
      place = range.place;
      at = range.at;
      new_place = or_left (at_place (arrived v) e.thread e.place) (at_object (arrived v) e.object e.at) once;
      new_at = or_right (at_place (arrived v) e.thread e.place) (at_object (arrived v) e.object e.at) once;
      before_place = λ a. before_rises place_before e a (or_left (clash_before place_before e) (clash_after place_after e) in_thread);
      after_place = λ b. after_rises place_after e b (or_right (clash_before place_before e) (clash_after place_after e) in_thread);
      before_at = λ a. before_rises at_before e a (or_left (clash_before at_before e) (clash_after at_after e) at_its_object);
      after_at = λ b. after_rises at_after e b (or_right (clash_before at_before e) (clash_after at_after e) at_its_object);
    }

-- one event is directly before another in their thread, or at their object
pub direct_cases : (a b : Entry) → IsDirect a b → ((a.thread ≡ b.thread) × (suc a.place ≡ b.place)) ⊎ ((a.object ≡ b.object) × (suc a.at ≡ b.at))
direct_cases a b h = ⊎_elim
    (λ (thread : (a.thread == b.thread && suc a.place == b.place) ≡ true).
    let both = and_parts (a.thread == b.thread) (suc a.place == b.place) thread in
    inl (eqb-true a.thread b.thread both.0, eqb-true (suc a.place) b.place both.1))
    (λ (object : (a.object == b.object && suc a.at == b.at) ≡ true).
    let both = and_parts (a.object == b.object) (suc a.at == b.at) object in
    inr (eqb-true a.object b.object both.0, eqb-true (suc a.at) b.at both.1))
    (or_cases (a.thread == b.thread && suc a.place == b.place) (a.object == b.object && suc a.at == b.at) h)

-- with an event that isn't refused the stamps still rise
module _ (v : MergerView) (e : Entry) (fits : IsAccepted v e)
    (places : (a : Entry) → Contains (arrived v) a → at_place (arrived v) a.thread a.place ≡ Some a)
    (ats : (a : Entry) → Contains (arrived v) a → at_object (arrived v) a.object a.at ≡ Some a) where
  before : (a : Entry) → Contains (arrived v) a → IsDirect a e → a.stamp < e.stamp
  before a h direct = ⊎_elim
      (λ (thread : (a.thread ≡ e.thread) × (suc a.place ≡ e.place)).
      let place : a.place ≡ e.place - 1 = omega (arith, thread.1) in
      fits.before_place a (subst (λ p. at_place (arrived v) e.thread p ≡ Some a) place (subst (λ t. at_place (arrived v) t a.place ≡ Some a) thread.0 (places a h))))
      (λ (object : (a.object ≡ e.object) × (suc a.at ≡ e.at)).
      let at : a.at ≡ e.at - 1 = omega (arith, object.1) in
      fits.before_at a (subst (λ n. at_object (arrived v) e.object n ≡ Some a) at (subst (λ o. at_object (arrived v) o a.at ≡ Some a) object.0 (ats a h))))
      (direct_cases a e direct)

  after : (b : Entry) → Contains (arrived v) b → IsDirect e b → e.stamp < b.stamp
  after b h direct = ⊎_elim
      (λ (thread : (e.thread ≡ b.thread) × (suc e.place ≡ b.place)).
      fits.after_place b (subst (λ p. at_place (arrived v) e.thread p ≡ Some b) (sym thread.1) (subst (λ t. at_place (arrived v) t b.place ≡ Some b) (sym thread.0) (places b h))))
      (λ (object : (e.object ≡ b.object) × (suc e.at ≡ b.at)).
      fits.after_at b (subst (λ n. at_object (arrived v) e.object n ≡ Some b) (sym object.1) (subst (λ o. at_object (arrived v) o b.at ≡ Some b) (sym object.0) (ats b h))))
      (direct_cases e b direct)

  itself : IsDirect e e → ⊥
  itself direct = ⊎_elim (λ (thread : (e.thread ≡ e.thread) × (suc e.place ≡ e.place)). omega (arith, thread.1)) (λ (object : (e.object ≡ e.object) × (suc e.at ≡ e.at)). omega (arith, object.1)) (direct_cases e e direct)

  pub rise-snoc : StampsRise (arrived v) → StampsRise (arrived v ++ e ∷ [])
  rise-snoc rise a b in_a in_b direct = ⊎_elim
      (λ (old_a : Contains (arrived v) a). ⊎_elim
      (λ (old_b : Contains (arrived v) b). rise a b old_a old_b direct)
      (λ (new_b : e ≡ b). subst (λ (y : Entry). a.stamp < y.stamp) new_b (before a old_a (subst (IsDirect a) (sym new_b) direct)))
      (Contains-push_cases (arrived v) e b in_b))
      (λ (new_a : e ≡ a). ⊎_elim
      (λ (old_b : Contains (arrived v) b). subst (λ (y : Entry). y.stamp < b.stamp) new_a (after b old_b (subst (λ y. IsDirect y b) (sym new_a) direct)))
      (λ (new_b : e ≡ b). absurd (itself (subst (IsDirect e) (sym new_b) (subst (λ y. IsDirect y b) (sym new_a) direct))))
      (Contains-push_cases (arrived v) e b in_b))
      (Contains-push_cases (arrived v) e a in_a)
