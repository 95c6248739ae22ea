-- Whether the direct predecessors of an event are in a list.
use Rattle.std.proofs.Common.{◌≡◌, ℕ, zero, suc, ◌-◌, Bool, true, false, ◌==◌, ◌&&◌, ◌||◌, ⊎_elim, List, [], ◌∷◌, find, Some, is_some, Contains, ap, ◌∙◌, arith}
use Rattle.std.proofs.lemmas.Bool.{cases_Bool, cond-true, cond-false, eqb-true, eq-eqb, and_parts, and_from, or_cases, or_left, or_right}
use Rattle.tm_base.specs.declared.events.Entry.{Entry}
use Rattle.tm_base.specs.Orders.{IsDirect}
use Rattle.tm_merge.specs.Places.{has_place, has_at, has_predecessors}
use Rattle.tm_merge.specs.StoredArrivals.{found}
use Rattle.tm_merge.proofs.ListLemmas.{Contains-first}
use Rattle.tm_merge.proofs.OrderLemmas.{find-element, there_is}

-- an element that passes the test is found, or another one is
pub found-some : {A : Type 0} (p : A → Bool) (xs : List A) (x : A) → Contains xs x → p x ≡ true → is_some (find p xs) ≡ true
found-some p [] x h passes = absurd (omega (arith, h.1))
found-some p (y ∷ xs) x h passes = ⊎_elim
    (λ (pass : p y ≡ true). ap is_some (cond-true (p y) (Some y) (find p xs) pass))
    (λ (fail : p y ≡ false). ap is_some (cond-false (p y) (Some y) (find p xs) fail) ∙ found-some p xs x (⊎_elim
    (λ (same : x ≡ y). let again : p x ≡ false = ap p same ∙ fail in absurd cc)
    (λ (after : Contains xs x). after)
    (Contains-first y xs x h)) passes)
    (cases_Bool (p y))

module _ (line number : Entry → ℕ) (es fs : List Entry) (x : Entry)
    (kept : (y : Entry) → Contains es y → line y ≡ line x → suc (number y) ≡ number x → Contains fs y) where
  -- a predecessor in one of the event's lines is in the other list too
  pub before_in : (number x - 1 == 0 || is_some (found line number es (line x) (number x - 1))) ≡ true → (number x - 1 == 0 || is_some (found line number fs (line x) (number x - 1))) ≡ true
  before_in h = ⊎_elim
      (λ (first : (number x - 1 == 0) ≡ true). or_left (number x - 1 == 0) (is_some (found line number fs (line x) (number x - 1))) first)
      (λ (later : (number x - 1 == 0) ≡ false).
      let some : is_some (found line number es (line x) (number x - 1)) ≡ true = ⊎_elim
      (λ (t : (number x - 1 == 0) ≡ true). absurd cc)
      (λ (t : is_some (found line number es (line x) (number x - 1)) ≡ true). t)
      (or_cases (number x - 1 == 0) (is_some (found line number es (line x) (number x - 1))) h) in
      let y = there_is (found line number es (line x) (number x - 1)) some in
      let element = find-element (λ e. line e == line x && number e == number x - 1) es y.0 y.1 in
      let both = and_parts (line y.0 == line x) (number y.0 == number x - 1) element.1 in
      let is_line = eqb-true (line y.0) (line x) both.0 in
      let is_number = eqb-true (number y.0) (number x - 1) both.1 in
      let next : suc (number y.0) ≡ number x = next_of (number x) (number y.0) later is_number in
      or_right (number x - 1 == 0) (is_some (found line number fs (line x) (number x - 1)))
      (found-some (λ e. line e == line x && number e == number x - 1) fs y.0 (kept y.0 element.0 is_line next) element.1))
      (cases_Bool (number x - 1 == 0))
    where
      next_of : (n m : ℕ) → (n - 1 == 0) ≡ false → m ≡ n - 1 → suc m ≡ n
      next_of zero m h is = absurd cc
      next_of (suc n) m h is = omega (arith, is)

direct_in_thread : (a b : Entry) → a.thread ≡ b.thread → suc a.place ≡ b.place → IsDirect a b
direct_in_thread a b thread place = or_left (a.thread == b.thread && suc a.place == b.place) (a.object == b.object && suc a.at == b.at) (and_from (a.thread == b.thread) (suc a.place == b.place) (eq-eqb a.thread b.thread thread) (eq-eqb (suc a.place) b.place place))

direct_at_object : (a b : Entry) → a.object ≡ b.object → suc a.at ≡ b.at → IsDirect a b
direct_at_object a b object at = or_right (a.thread == b.thread && suc a.place == b.place) (a.object == b.object && suc a.at == b.at) (and_from (a.object == b.object) (suc a.at == b.at) (eq-eqb a.object b.object object) (eq-eqb (suc a.at) b.at at))

-- the direct predecessors of an event are in each list that has those of them that the other one has
pub predecessors_in : (es fs : List Entry) (x : Entry) → ((y : Entry) → Contains es y → IsDirect y x → Contains fs y) → has_predecessors es x ≡ true → has_predecessors fs x ≡ true
predecessors_in es fs x kept h =
    let both = and_parts (has_place es x.thread (x.place - 1)) (has_at es x.object (x.at - 1)) h in
    and_from (has_place fs x.thread (x.place - 1)) (has_at fs x.object (x.at - 1))
    (before_in (λ e. e.thread) (λ e. e.place) es fs x (λ y in_es line next. kept y in_es (direct_in_thread y x line next)) both.0)
    (before_in (λ e. e.object) (λ e. e.at) es fs x (λ y in_es line next. kept y in_es (direct_at_object y x line next)) both.1)
