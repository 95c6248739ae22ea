-- Nothing stays held back, and the soonest first are the order by stamp.
use Rattle.std.proofs.Common.{◌≡◌, ℕ, zero, suc, ◌<◌, ◌≤◌, inl, inr, ◌⊎◌, ⊎_elim, List, [], ◌∷◌, ◌++◌, Contains, refl, ap, sym, subst, arith}
use Rattle.std.specs.Prelude.{AllPairs, IsPermutation}
use Rattle.std.proofs.lemmas.Bool.{cases_lt}
use Rattle.std.proofs.lemmas.List.Elements.{Contains-append_cases, Contains-append_right, Contains-get_or}
use Rattle.std.proofs.lemmas.List.Sorted.{Contains-permutation, IsPermutation-sym}
use Rattle.tm_base.specs.declared.events.Entry.{Entry}
use Rattle.tm_base.specs.Orders.{IsWellPlaced, IsNotLater, StampsRise}
use Rattle.tm_replay.proofs.SliceLemmas.{Contains-first}
use Rattle.tm_order.specs.Ready.{IsShownBefore, NoneIsReady, ShowsSoonest}
use Rattle.tm_order.specs.StampOrder.{IsInStampOrder}
use Rattle.tm_order.proofs.Elements.{Contains-head, Contains-next}
use Rattle.tm_order.proofs.PlacedLemmas.{key-before}
use Rattle.tm_order.proofs.Rearranging.{direct-object, direct-thread}
use Rattle.tm_order.proofs.StampOrderLemmas.{not_later-stamps}

-- the event is the first one of its thread, or object, or the one before it is there, with a smaller stamp
abbrev pub HasBefore : (Entry → ℕ) → (Entry → ℕ) → List Entry → Entry → Type 0
HasBefore key number es e = (number e ≤ 1) ⊎ ((a : Entry) × Contains es a × (key a ≡ key e) × (suc (number a) ≡ number e) × (a.stamp < e.stamp))

pub record AreComplete (es : List Entry) : Type 0 where
  pub threads : (e : Entry) → Contains es e → HasBefore (λ a. a.thread) (λ a. a.place) es e
  pub objects : (e : Entry) → Contains es e → HasBefore (λ a. a.object) (λ a. a.at) es e

pub placed-complete : (es : List Entry) → IsWellPlaced es → StampsRise es → AreComplete es
placed-complete es placed rises = record {
  threads = λ e within. ⊎_elim
      (λ (more : 1 < e.place).
      let at = key-before (λ a. a.thread) (λ a. a.place) es placed.threads e within more in
      inr (at.0, at.1, at.2, at.3, rises at.0 e at.1 within (direct-thread at.0 e at.2 at.3)))
      (λ (first : e.place ≤ 1). inl first)
      (cases_lt 1 e.place);
  objects = λ e within. ⊎_elim
      (λ (more : 1 < e.at).
      let at = key-before (λ a. a.object) (λ a. a.at) es placed.objects e within more in
      inr (at.0, at.1, at.2, at.3, rises at.0 e at.1 within (direct-object at.0 e at.2 at.3)))
      (λ (first : e.at ≤ 1). inl first)
      (cases_lt 1 e.at);
}

-- a list without elements is empty
none-empty : {A : Type 0} (xs : List A) → ((x : A) → Contains xs x → ⊥) → xs ≡ []
none-empty [] none = refl
none-empty (x ∷ xs) none = absurd (none x (Contains-head x xs))

module _ (es shown held : List Entry) (complete : AreComplete es) (known : (e : Entry) → Contains es e → Contains shown e ⊎ Contains held e)
    (within : (e : Entry) → Contains held e → Contains es e) (none : NoneIsReady shown held) where
  -- what is directly before is shown, unless it is held back itself, with a smaller stamp
  shown-before : (key number : Entry → ℕ) (e : Entry) → ((a : Entry) → Contains held a → a.stamp < e.stamp → ⊥) → HasBefore key number es e
      → (number e ≤ 1) ⊎ IsShownBefore key number shown e
  shown-before key number e smaller (inl first) = inl first
  shown-before key number e smaller (inr at) = ⊎_elim
      (λ (there : Contains shown at.0). inr (at.0, there, at.2, at.3))
      (λ (there : Contains held at.0). absurd (smaller at.0 there at.4))
      (known at.0 at.1)

  -- so none is held back, by the least stamp
  none-held : (n : ℕ) (e : Entry) → e.stamp < n → Contains held e → ⊥
  none-held zero e less there = omega (arith, less)
  none-held (suc n) e less there =
      let smaller : (a : Entry) → Contains held a → a.stamp < e.stamp → ⊥ = λ a also sooner. none-held n a (omega (arith, less, sooner)) also in
      none e there (record {
        thread = shown-before (λ a. a.thread) (λ a. a.place) e smaller (complete.threads e (within e there));
        object = shown-before (λ a. a.object) (λ a. a.at) e smaller (complete.objects e (within e there));
      })

  pub nothing-held : held ≡ []
  nothing-held = none-empty held (λ e there. none-held (suc e.stamp) e (omega arith) there)

pub all-shown : (es shown held : List Entry) → IsWellPlaced es → StampsRise es → IsPermutation es (shown ++ held) → NoneIsReady shown held → held ≡ []
all-shown es shown held placed rises permutation none =
    nothing-held es shown held (placed-complete es placed rises)
    (λ e within. Contains-append_cases shown held e (Contains-permutation es (shown ++ held) e permutation within))
    (λ e there. Contains-permutation (shown ++ held) es e (IsPermutation-sym es (shown ++ held) permutation) (Contains-append_right shown held e there))
    none

-- what holds of each element and of those behind it
pairs-behind : {A : Type 0} (R : A → A → Type 0) (xs : List A) → ((prefix back : List A) (a b : A) → xs ≡ prefix ++ a ∷ back → Contains back b → R a b) → AllPairs R xs
pairs-behind R [] behind i k d less within = absurd (omega (arith, within))
pairs-behind R (x ∷ xs) behind zero zero d less within = absurd (omega (arith, less))
pairs-behind R (x ∷ xs) behind (suc i) zero d less within = absurd (omega (arith, less))
pairs-behind R (x ∷ xs) behind zero (suc k) d less within = behind [] xs x _ refl (Contains-get_or xs k d (omega (arith, within)))
pairs-behind R (x ∷ xs) behind (suc i) (suc k) d less within =
    pairs-behind R xs (λ prefix back a b parts there. behind (x ∷ prefix) back a b (ap (λ l. x ∷ l) parts) there) i k d (omega (arith, less)) (omega (arith, within))

module _ (es : List Entry) (complete : AreComplete es) (soonest : ShowsSoonest es) where
  -- what is directly before is in front, or the event isn't sooner than the one shown
  prefix-before : (key number : Entry → ℕ) (prefix back : List Entry) (a b : Entry) → es ≡ prefix ++ a ∷ back
      → ((c : Entry) → Contains back c → c.stamp < b.stamp → IsNotLater a c) → HasBefore key number es b
      → IsNotLater a b ⊎ ((number b ≤ 1) ⊎ IsShownBefore key number prefix b)
  prefix-before key number prefix back a b parts sooner (inl first) = inr (inl first)
  prefix-before key number prefix back a b parts sooner (inr at) = ⊎_elim
      (λ (there : Contains prefix at.0). inr (inr (at.0, there, at.2, at.3)))
      (λ (behind : Contains (a ∷ back) at.0). ⊎_elim
      (λ (same : at.0 ≡ a). inl (inl (subst (λ (c : Entry). c.stamp < b.stamp) same at.4)))
      (λ (later : Contains back at.0).
      let least = not_later-stamps a at.0 (sooner at.0 later at.4) in
      inl (inl (omega (arith, least, at.4))))
      (Contains-first a back at.0 behind))
      (Contains-append_cases prefix (a ∷ back) at.0 (subst (λ (l : List Entry). Contains l at.0) parts at.1))

  not_later : (n : ℕ) (prefix back : List Entry) (a b : Entry) → es ≡ prefix ++ a ∷ back → b.stamp < n → Contains back b → IsNotLater a b
  not_later zero prefix back a b parts less there = absurd (omega (arith, less))
  not_later (suc n) prefix back a b parts less there =
      let sooner : (c : Entry) → Contains back c → c.stamp < b.stamp → IsNotLater a c = λ c also smaller. not_later n prefix back a c parts (omega (arith, less, smaller)) also in
      let within : Contains es b = subst (λ (l : List Entry). Contains l b) (sym parts) (Contains-append_right prefix (a ∷ back) b (Contains-next a back b there)) in
      ⊎_elim (λ (done : IsNotLater a b). done)
      (λ (thread : (b.place ≤ 1) ⊎ IsShownBefore (λ c. c.thread) (λ c. c.place) prefix b). ⊎_elim (λ (done : IsNotLater a b). done)
      (λ (object : (b.at ≤ 1) ⊎ IsShownBefore (λ c. c.object) (λ c. c.at) prefix b). soonest prefix back a b parts there (record { thread = thread; object = object }))
      (prefix-before (λ c. c.object) (λ c. c.at) prefix back a b parts sooner (complete.objects b within)))
      (prefix-before (λ c. c.thread) (λ c. c.place) prefix back a b parts sooner (complete.threads b within))

  pub soonest-sorts : IsInStampOrder es
  soonest-sorts = pairs-behind IsNotLater es (λ prefix back a b parts there. not_later (suc b.stamp) prefix back a b parts (omega arith) there)
