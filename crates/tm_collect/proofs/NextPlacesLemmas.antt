-- Where the next event of a joint run stands among those before it.
use Rattle.std.proofs.Common.{◌≡◌, ◌≢◌, ℕ, suc, ◌-◌, ◌<◌, ◌≤◌, Bool, true, false, cond, ◌==◌, ◌&&◌, ◌||◌, ◌⊎◌, inl, inr, ⊎_elim, List, [], ◌∷◌, ◌++◌, find, Contains, Some, is_some, refl, ap, sym, ◌∙◌, subst, arith, eq-eqb}
use Rattle.std.proofs.lemmas.Bool.{cases_eq, and_from, or_left, or_right}
use Rattle.std.proofs.lemmas.List.Elements.{Contains-append_left, Contains-push, Contains-push_cases}
use Rattle.tm_base.specs.declared.events.Entry.{Entry}
use Rattle.tm_merge.specs.Places.{has_predecessors, has_place, has_at}
use Rattle.tm_merge.specs.Refusals.{SharePlace, BreakRise}
use Rattle.tm_merge.proofs.RefusalLemmas.{direct_cases}
use Rattle.tm_text.specs.Exercises.{ExerciseView}
use Rattle.tm_replay.specs.JointStates.{JointState, start}
use Rattle.tm_replay.specs.JointSteps.{JointStep, IsJointRun}
use Rattle.tm_replay.proofs.SliceLemmas.{Contains-first}
use Rattle.tm_replay.proofs.ProjectionsLemmas.{runs-keep}
use Rattle.tm_replay.proofs.JointOrderLemmas.{KnowsThread, thread-after, thread-none, KnowsObject, object-after, object-none}

-- an element that passes is found, or one before it
find-some : {A : Type 0} (p : A → Bool) (xs : List A) (x : A) → Contains xs x → p x ≡ true → is_some (find p xs) ≡ true
find-some p [] x within passes = absurd (omega (arith, within.1))
find-some {A} p (y ∷ xs) x within passes = go (p y) refl (Contains-first y xs x within) (λ later. find-some p xs x later passes)
  where
    go : (b : Bool) → p y ≡ b → (x ≡ y) ⊎ Contains xs x → (Contains xs x → is_some (find p xs) ≡ true) → is_some (cond b (Some y) (find p xs)) ≡ true
    go true is place later = refl
    go false is (inl same) later = let fails : true ≡ false = sym passes ∙ ap p same ∙ is in absurd cc
    go false is (inr behind) later = later behind

-- the events with one key, which is their thread or their object, have all numbers below the next, and no stamp
-- above the last
record IsCovered (key number : Entry → ℕ) (es : List Entry) (i next stamp : ℕ) : Type 0 where
  positive : 0 < next
  below : (a : Entry) → Contains es a → key a ≡ i → (number a < next) × (a.stamp ≤ stamp)
  there : (n : ℕ) → 0 < n → n < next → (a : Entry) × Contains es a × (key a ≡ i) × (number a ≡ n)

module _ (key number : Entry → ℕ) (es : List Entry) where
  is_there : (i next stamp n : ℕ) → IsCovered key number es i next stamp → n < next → (n == 0 || is_some (find (λ a. key a == i && number a == n) es)) ≡ true
  is_there i next stamp n own less =
      let test : Entry → Bool = λ a. key a == i && number a == n in
      ⊎_elim
      (λ (none : n ≡ 0). or_left (n == 0) (is_some (find test es)) (eq-eqb n 0 none))
      (λ (some : n ≢ 0).
      let at = own.there n (omega (arith, some)) less in
      or_right (n == 0) (is_some (find test es))
      (find-some test es at.0 at.1 (and_from (key at.0 == i) (number at.0 == n) (eq-eqb (key at.0) i at.2) (eq-eqb (number at.0) n at.3))))
      (cases_eq n 0)

  module _ (e : Entry) where
    covered-own : (was : ℕ) → was < e.stamp → IsCovered key number es (key e) (number e) was → IsCovered key number (es ++ e ∷ []) (key e) (suc (number e)) e.stamp
    covered-own was rises own = record {
      positive = omega arith;
      below = λ a within keys. ⊎_elim
          (λ (earlier : Contains es a). let less = own.below a earlier keys in (omega (arith, less.0), omega (arith, less.1, rises)))
          (λ (same : e ≡ a).
          let numbers : number e ≡ number a = ap number same in
          let stamps : e.stamp ≡ a.stamp = ap (λ (d : Entry). d.stamp) same in (omega (arith, numbers), omega (arith, stamps)))
          (Contains-push_cases es e a within);
      there = λ n low high. ⊎_elim
          (λ (here : n ≡ number e). (e, Contains-push es e, refl, sym here))
          (λ (apart : n ≢ number e). let at = own.there n low (omega (arith, high, apart)) in (at.0, Contains-append_left es (e ∷ []) at.0 at.1, at.2, at.3))
          (cases_eq n (number e));
    }

    covered-other : (i next stamp : ℕ) → i ≢ key e → IsCovered key number es i next stamp → IsCovered key number (es ++ e ∷ []) i next stamp
    covered-other i next stamp apart own = record {
      positive = own.positive;
      below = λ a within keys. ⊎_elim
          (λ (earlier : Contains es a). own.below a earlier keys)
          (λ (same : e ≡ a). absurd (apart (sym keys ∙ sym (ap key same))))
          (Contains-push_cases es e a within);
      there = λ n low high. let at = own.there n low high in (at.0, Contains-append_left es (e ∷ []) at.0 at.1, at.2, at.3);
    }

-- the joint state knows the next number and the last stamp of each key
module _ (x : ExerciseView) (key number : Entry → ℕ) (Knows : JointState → ℕ → ℕ → ℕ → Type 0)
    (before : (j : JointState) (e : Entry) (k : JointState) → JointStep x j e k → (stamp : ℕ) × Knows j (key e) (number e) stamp × (stamp < e.stamp))
    (after : (j : JointState) (e : Entry) (k : JointState) → JointStep x j e k → (i next stamp : ℕ) → Knows k i next stamp
    → ((i ≡ key e) × (next ≡ suc (number e)) × (stamp ≡ e.stamp)) ⊎ ((i ≢ key e) × Knows j i next stamp))
    (none : (i next stamp : ℕ) → Knows (start x) i next stamp → (next ≡ 1) × (stamp ≡ 0)) where
  abbrev AreCovered : List Entry → JointState → Type 0
  AreCovered es j = (i next stamp : ℕ) → Knows j i next stamp → IsCovered key number es i next stamp

  covered-start : AreCovered [] (start x)
  covered-start i next stamp knows =
      let first = none i next stamp knows in
      record {
        positive = omega (arith, first.0);
        below = λ a within keys. absurd (omega (arith, within.1));
        there = λ n low high. absurd (omega (arith, first.0, low, high));
      }

  covered-step : (es : List Entry) (j : JointState) (e : Entry) (k : JointState) → AreCovered es j → JointStep x j e k → AreCovered (es ++ e ∷ []) k
  covered-step es j e k holds step i next stamp knows = ⊎_elim
      (λ (same : (i ≡ key e) × (next ≡ suc (number e)) × (stamp ≡ e.stamp)).
      let was = before j e k step in
      subst (λ (n : ℕ). IsCovered key number (es ++ e ∷ []) n next stamp) (sym same.0)
      (subst (λ (n : ℕ). IsCovered key number (es ++ e ∷ []) (key e) n stamp) (sym same.1)
      (subst (λ (n : ℕ). IsCovered key number (es ++ e ∷ []) (key e) (suc (number e)) n) (sym same.2)
      (covered-own key number es e was.0 was.2 (holds (key e) (number e) was.0 was.1)))))
      (λ (other : (i ≢ key e) × Knows j i next stamp). covered-other key number es e i next stamp other.0 (holds i next stamp other.1))
      (after j e k step i next stamp knows)

  covered : (es : List Entry) (j : JointState) (e : Entry) (k : JointState) → IsJointRun x es j → (step : JointStep x j e k) → IsCovered key number es (key e) (number e) (before j e k step).0
  covered es j e k run step =
      runs-keep (JointStep x) AreCovered covered-step es [] (start x) j covered-start run (key e) (number e) (before j e k step).0 (before j e k step).1

module _ (x : ExerciseView) where
  rising-thread : (j : JointState) (e : Entry) (k : JointState) → JointStep x j e k → (stamp : ℕ) × KnowsThread x j e.thread e.place stamp × (stamp < e.stamp)
  rising-thread j e k step =
      (step.happens.thread_state.stamp, (step.happens.thread_state, step.happens.thread, step.happens.place, refl), omega (arith, step.happens.stamp))

  rising-object : (j : JointState) (e : Entry) (k : JointState) → JointStep x j e k → (stamp : ℕ) × KnowsObject x j e.object e.at stamp × (stamp < e.stamp)
  rising-object j e k step =
      (step.happens.object_state.stamp, (step.happens.object_state, step.happens.object, step.happens.at, refl), omega (arith, step.happens.stamp))

  module _ (es : List Entry) (j : JointState) (e : Entry) (k : JointState) (run : IsJointRun x es j) (step : JointStep x j e k) where
    in_thread : IsCovered (λ a. a.thread) (λ a. a.place) es e.thread e.place (rising-thread j e k step).0
    in_thread = covered x (λ a. a.thread) (λ a. a.place) (KnowsThread x) rising-thread (thread-after x) (thread-none x) es j e k run step

    at_object : IsCovered (λ a. a.object) (λ a. a.at) es e.object e.at (rising-object j e k step).0
    at_object = covered x (λ a. a.object) (λ a. a.at) (KnowsObject x) rising-object (object-after x) (object-none x) es j e k run step

    -- its numbers count from 1
    pub next-counted : (0 < e.place) × (0 < e.at) × (0 < e.stamp)
    next-counted = (in_thread.positive, at_object.positive, omega (arith, step.happens.stamp))

    -- no event before it has its place
    pub next-own : (a : Entry) → Contains es a → SharePlace a e → ⊥
    next-own a within (inl same) =
        let less = (in_thread.below a within same.0).0 in
        let places = same.1 in omega (arith, less, places)
    next-own a within (inr same) =
        let less = (at_object.below a within same.0).0 in
        let ats = same.1 in omega (arith, less, ats)

    earlier-rises : (a : Entry) → Contains es a → ((a.thread ≡ e.thread) × (suc a.place ≡ e.place)) ⊎ ((a.object ≡ e.object) × (suc a.at ≡ e.at)) → a.stamp < e.stamp
    earlier-rises a within (inl thread) =
        let least = (in_thread.below a within thread.0).1 in
        let rises = (rising-thread j e k step).2 in omega (arith, least, rises)
    earlier-rises a within (inr object) =
        let least = (at_object.below a within object.0).1 in
        let rises = (rising-object j e k step).2 in omega (arith, least, rises)

    none-later : (a : Entry) → Contains es a → ((e.thread ≡ a.thread) × (suc e.place ≡ a.place)) ⊎ ((e.object ≡ a.object) × (suc e.at ≡ a.at)) → ⊥
    none-later a within (inl thread) =
        let less = (in_thread.below a within (sym thread.0)).0 in
        let places = thread.1 in omega (arith, less, places)
    none-later a within (inr object) =
        let less = (at_object.below a within (sym object.0)).0 in
        let ats = object.1 in omega (arith, less, ats)

    -- nor do the stamps fall to it, or from it
    pub next-rises : (a : Entry) → Contains es a → BreakRise a e → ⊥
    next-rises a within (inl before) =
        let less = earlier-rises a within (direct_cases a e before.0) in
        let falls = before.1 in omega (arith, less, falls)
    next-rises a within (inr after) = none-later a within (direct_cases e a after.0)

    -- its direct predecessors are there
    pub next-ready : has_predecessors es e ≡ true
    next-ready =
        let place = in_thread.positive in
        let at = at_object.positive in
        and_from (has_place es e.thread (e.place - 1)) (has_at es e.object (e.at - 1))
        (is_there (λ a. a.thread) (λ a. a.place) es e.thread e.place (rising-thread j e k step).0 (e.place - 1) in_thread (omega (arith, place)))
        (is_there (λ a. a.object) (λ a. a.at) es e.object e.at (rising-object j e k step).0 (e.at - 1) at_object (omega (arith, at)))
