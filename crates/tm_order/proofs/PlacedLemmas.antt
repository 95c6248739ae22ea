-- Well placed lists: each event stands once, has all places before it, and keeps them in another order.
use Rattle.std.proofs.Common.{◌≡◌, ℕ, zero, suc, ◌<◌, ◌≤◌, Bool, true, cond, ◌==◌, ◌&&◌, ⊎_elim, List, [], ◌∷◌, ◌++◌, filter, length, count_by, Contains, refl, ap, sym, ◌∙◌, arith, eq-eqb, subst}
use Rattle.std.specs.Prelude.{IsPermutation}
use Rattle.std.proofs.lemmas.Bool.{and_from, eqb-true}
use Rattle.std.proofs.lemmas.List.Elements.{Contains-append_left}
use Rattle.std.proofs.lemmas.List.Sums.{length-filter}
use Rattle.std.proofs.lemmas.List.Sorted.{sum_by-IsPermutation}
use Rattle.tm_base.specs.declared.events.Entry.{Entry}
use Rattle.tm_base.specs.Orders.{AreNumbered, IsWellPlaced}
use Rattle.tm_replay.proofs.SliceLemmas.{Contains-first}
use Rattle.tm_order.proofs.Elements.{Contains-filter, Contains-filtered, Contains-head, Contains-middle, Contains-next, Contains-none, AppearOnce}
use Rattle.tm_order.proofs.CountsLemmas.{all-counted, count-all, count-filter, count-in, count-later, count-some, counted-one, counted-some, is_upto, is_upto-within}

-- each number is one of the first ones
numbered-within : (number : Entry → ℕ) (es : List Entry) (e : Entry) → AreNumbered number es → Contains es e → (1 ≤ number e) × (number e ≤ length es)
numbered-within number es e numbered within =
    let all : count_by (is_upto number (length es)) es ≡ length es = count-all number es (length es) numbered in
    is_upto-within number (length es) e (all-counted (is_upto number (length es)) es e (omega (arith, all)) within)

-- each event stands once where of its thread, or object, and its number there is one
AppearOnce-counts : (same : Entry → Entry → Bool) → ((e : Entry) → same e e ≡ true) → (es : List Entry) → ((e : Entry) → Contains es e → count_by (same e) es ≤ 1) → AppearOnce es
AppearOnce-counts same itself [] few = tt
AppearOnce-counts same itself (e ∷ es) few = (
  λ again.
      let one = few e (Contains-head e es) in
      let first = count-in (same e) e es (itself e) in
      let more = count-some (same e) es e again (itself e) in
      omega (arith, one, first, more),
  AppearOnce-counts same itself es (λ f within.
      let most = few f (Contains-next e es f within) in
      let less = count-later (same f) e es in
      omega (arith, most, less)),
)

-- the events with one key, which is their thread or their object
module _ (key number : Entry → ℕ) (es : List Entry) (numbered : (i : ℕ) → AreNumbered number (filter (λ e. key e == i) es)) where
  abbrev own : ℕ → List Entry
  own i = filter (λ e. key e == i) es

  among-own : (e : Entry) → Contains es e → Contains (own (key e)) e
  among-own e within = Contains-filter (λ f. key f == key e) es e within (eq-eqb (key e) (key e) refl)

  counted : (e : Entry) → Contains es e → count_by (λ f. number f == number e) (own (key e)) ≡ 1
  counted e within =
      let range = numbered-within number (own (key e)) e (numbered (key e)) (among-own e within) in
      numbered (key e) (number e) range.0 range.1

  key-once : AppearOnce es
  key-once = AppearOnce-counts (λ e f. key f == key e && number f == number e)
      (λ e. and_from (key e == key e) (number e == number e) (eq-eqb (key e) (key e) refl) (eq-eqb (number e) (number e) refl)) es
      (λ e within.
      let one : count_by (λ f. key f == key e && number f == number e) es ≡ 1 =
      sym (count-filter (λ f. key f == key e) (λ f. number f == number e) es) ∙ counted e within in
      omega (arith, one))

  pub key-one : (a b : Entry) → Contains es a → Contains es b → key a ≡ key b → number a ≡ number b → a ≡ b
  key-one a b first second keys numbers =
      let one = counted b second in
      counted-one (λ f. number f == number b) (own (key b)) a b (omega (arith, one))
      (Contains-filter (λ f. key f == key b) es a first (eq-eqb (key a) (key b) keys)) (among-own b second)
      (eq-eqb (number a) (number b) numbers) (eq-eqb (number b) (number b) refl)

  pub key-range : (e : Entry) → Contains es e → 1 ≤ number e
  key-range e within = (numbered-within number (own (key e)) e (numbered (key e)) (among-own e within)).0

  pub key-before : (e : Entry) → Contains es e → 1 < number e → (a : Entry) × Contains es a × (key a ≡ key e) × (suc (number a) ≡ number e)
  key-before e within more = found (number e) refl more
    where
      found : (n : ℕ) → number e ≡ n → 1 < n → (a : Entry) × Contains es a × (key a ≡ key e) × (suc (number a) ≡ number e)
      found zero is above = absurd (omega (arith, above))
      found (suc n) is above =
          let range = numbered-within number (own (key e)) e (numbered (key e)) (among-own e within) in
          let one : count_by (λ f. number f == n) (own (key e)) ≡ 1 = numbered (key e) n (omega (arith, above)) (omega (arith, range.1, is)) in
          let at = counted-some (λ f. number f == n) (own (key e)) (omega (arith, one)) in
          let from = Contains-filtered (λ f. key f == key e) es at.0 at.1 in
          (at.0, from.0, eqb-true (key at.0) (key e) from.1, ap suc (eqb-true (number at.0) n at.2) ∙ sym is)

  -- in another order they are numbered too
  key-permuted : (order : List Entry) → IsPermutation es order → (i : ℕ) → AreNumbered number (filter (λ e. key e == i) order)
  key-permuted order permutation i k low high =
      let test : Entry → Bool = λ e. key e == i in
      let long : length (filter test order) ≡ length (own i) =
      length-filter test order ∙ sum_by-IsPermutation (λ e. cond (test e) 1 0) es order permutation ∙ sym (length-filter test es) in
      count-filter test (λ e. number e == k) order ∙ sum_by-IsPermutation (λ e. cond (test e && number e == k) 1 0) es order permutation
      ∙ sym (count-filter test (λ e. number e == k) es) ∙ numbered i k low (omega (arith, high, long))

-- an element of the prefix stands once
twice : (prefix back : List Entry) (e : Entry) → Contains prefix e → AppearOnce (prefix ++ e ∷ back) → ⊥
twice [] back e before once = Contains-none e before
twice (f ∷ prefix) back e before once = ⊎_elim
    (λ (same : e ≡ f). once.0 (subst (Contains (prefix ++ e ∷ back)) same (Contains-middle prefix back e)))
    (λ (later : Contains prefix e). twice prefix back e later once.1)
    (Contains-first f prefix e before)

pub placed-once : (es : List Entry) → IsWellPlaced es → AppearOnce es
placed-once es placed = key-once (λ e. e.thread) (λ e. e.place) es placed.threads

pub placed-permuted : (es order : List Entry) → IsWellPlaced es → IsPermutation es order → IsWellPlaced order
placed-permuted es order placed permutation = record {
  threads = key-permuted (λ e. e.thread) (λ e. e.place) es placed.threads order permutation;
  objects = key-permuted (λ e. e.object) (λ e. e.at) es placed.objects order permutation;
}

-- the one before stands once, so it isn't the one that stands behind
pub placed-apart : (es prefix back : List Entry) (a b : Entry) → IsWellPlaced es → es ≡ prefix ++ b ∷ back → Contains prefix a
    → (a.thread ≡ b.thread → a.place ≡ b.place → ⊥) × (a.object ≡ b.object → a.at ≡ b.at → ⊥)
placed-apart es prefix back a b placed parts before = (
  λ keys numbers. apart (key-one (λ e. e.thread) (λ e. e.place) es placed.threads a b first second keys numbers),
  λ keys numbers. apart (key-one (λ e. e.object) (λ e. e.at) es placed.objects a b first second keys numbers),
)
  where
    first : Contains es a
    first = subst (λ (l : List Entry). Contains l a) (sym parts) (Contains-append_left prefix (b ∷ back) a before)

    second : Contains es b
    second = subst (λ (l : List Entry). Contains l b) (sym parts) (Contains-middle prefix back b)

    apart : a ≡ b → ⊥
    apart same = twice prefix back b (subst (Contains prefix) same before) (subst AppearOnce parts (placed-once es placed))
