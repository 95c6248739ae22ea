-- What the lines of stored arrivals say of the events that arrived.
use Rattle.std.proofs.Common.{◌≡◌, ℕ, ◌^◌, ◌<◌, ◌≤◌, true, ◌==◌, ◌&&◌, ⊎_elim, List, ◌++◌, Option, Some, None, is_some, slice_get, Contains, refl, sym, ap, ◌∙◌, subst, arith}
use Rattle.std.specs.Option.{option_or}
use Rattle.std.proofs.lemmas.Bool.{eqb-true, eq-eqb, and_parts, and_from, cases_lt}
use Rattle.std.proofs.lemmas.Bool.Decides.{nat_tests}
use Rattle.std.proofs.lemmas.List.Folds.{find-append}
use Rattle.std.proofs.lemmas.List.Elements.{Contains-append_cases}
use Rattle.tm_base.specs.declared.events.Entry.{Entry}
use Rattle.tm_merge.specs.declared.lines.Line.{Line}
use Rattle.tm_merge.specs.Lines.{slot_at}
use Rattle.tm_merge.specs.Numbering.{IsNumberedBy}
use Rattle.tm_merge.specs.StoredArrivals.{found, occupants, IsIndexed, AreTails}
use Rattle.tm_merge.proofs.NumberingLemmas.{exact_owns, none_from}
use Rattle.tm_merge.proofs.SlotsLemmas.{find-none, find-one, slot_of}

-- what is shown has no slot, and what has a slot isn't shown
pub slot_at-shown : (l : Line) (n : ℕ) → n ≤ l.shown → slot_at l n ≡ None
slot_at-shown l n h = grind (arith, nat_tests)

pub slot_at-later : (l : Line) (n s : ℕ) → slot_at l n ≡ Some s → l.shown < n
slot_at-later l n s h = grind (arith, nat_tests)

module _ (line number : Entry → ℕ) (lines : List Line) (shown : List Entry) (slots : List (Option Entry))
    (index : IsIndexed line number lines slots) (tails : AreTails line number lines shown) (numbered : IsNumberedBy line number shown) where
  -- an event of a slot with a line's number is the one that the line names
  named_by : (k n : ℕ) (l : Line) → slice_get lines k ≡ Some l → (r : ℕ) (d : Entry) → slice_get slots r ≡ Some (Some d) → (line d == k && number d == n) ≡ true → slot_at l n ≡ Some r
  named_by k n l at r d there pass =
      let both = and_parts (line d == k) (number d == n) pass in
      let is_line : line d ≡ k = eqb-true (line d) k both.0 in
      let is_number : number d ≡ n = eqb-true (number d) n both.1 in
      let name = index.named r d there in
      let own : slice_get lines k ≡ Some name.own = subst (λ j. slice_get lines j ≡ Some name.own) is_line name.there in
      let same : name.own ≡ l = cc in
      subst (λ m. slot_at m n ≡ Some r) same (subst (λ j. slot_at name.own j ≡ Some r) is_number name.slot)

  pub held_slot : (k n s : ℕ) (l : Line) → slice_get lines k ≡ Some l → slot_at l n ≡ Some s → (o : Option Entry) → slice_get slots s ≡ Some o → found line number (occupants slots) k n ≡ o
  held_slot k n s l at slot o there =
      let has = index.known k n s l at slot in
      let same : o ≡ Some has.entry = cc in
      let pass : (line has.entry == k && number has.entry == n) ≡ true = and_from (line has.entry == k) (number has.entry == n) (eq-eqb (line has.entry) k has.line_is) (eq-eqb (number has.entry) n has.number_is) in
      find-one (λ e. line e == k && number e == n) slots s has.entry has.there pass
      (λ r d at_r passes. let name = named_by k n l at r d at_r passes in let equal : Some r ≡ Some s = sym name ∙ slot in cc) ∙ sym same

  pub held_free : (k n : ℕ) (l : Line) → slice_get lines k ≡ Some l → slot_at l n ≡ None → found line number (occupants slots) k n ≡ None
  held_free k n l at free = find-none (λ e. line e == k && number e == n) slots (λ r d at_r passes. let name = named_by k n l at r d at_r passes in let equal : Some r ≡ None = sym name ∙ free in absurd cc)

  found_both : (k n : ℕ) → found line number (shown ++ occupants slots) k n ≡ option_or (found line number shown k n) (found line number (occupants slots) k n)
  found_both k n = find-append (λ e. line e == k && number e == n) shown (occupants slots)

  -- beyond what is shown of a line, no shown event has its numbers
  pub shown_free : (k n : ℕ) (l : Line) → slice_get lines k ≡ Some l → l.shown < n → found line number shown k n ≡ None
  shown_free k n l at later =
      let count = (tails k l at).count in
      none_from (found line number shown k n) ((exact_owns line number shown numbered).0 k n ∙ grind (arith, nat_tests))

  or_none : {A : Type 0} (o : Option A) → option_or o None ≡ o
  or_none None = refl
  or_none (Some x) = refl

  pub found_shown : (k n : ℕ) (l : Line) → slice_get lines k ≡ Some l → n ≤ l.shown → found line number (shown ++ occupants slots) k n ≡ found line number shown k n
  found_shown k n l at early =
      found_both k n ∙ ap (option_or (found line number shown k n)) (held_free k n l at (slot_at-shown l n early)) ∙ or_none (found line number shown k n)

  pub found_last : (k : ℕ) (l : Line) → slice_get lines k ≡ Some l → found line number (shown ++ occupants slots) k l.shown ≡ l.last
  found_last k l at = found_shown k l.shown l at (omega arith) ∙ sym (tails k l at).last

  pub found_free : (k n : ℕ) (l : Line) → slice_get lines k ≡ Some l → l.shown < n → slot_at l n ≡ None → found line number (shown ++ occupants slots) k n ≡ None
  found_free k n l at later free =
      found_both k n ∙ ap (λ o. option_or o (found line number (occupants slots) k n)) (shown_free k n l at later) ∙ held_free k n l at free

  pub found_slot : (k n s : ℕ) (l : Line) → slice_get lines k ≡ Some l → slot_at l n ≡ Some s → (o : Option Entry) → slice_get slots s ≡ Some o → found line number (shown ++ occupants slots) k n ≡ o
  found_slot k n s l at slot o there =
      found_both k n ∙ ap (λ p. option_or p (found line number (occupants slots) k n)) (shown_free k n l at (slot_at-later l n s slot)) ∙ held_slot k n s l at slot o there

  pub found_later : (k n : ℕ) (l : Line) → slice_get lines k ≡ Some l → l.shown < n → found line number (shown ++ occupants slots) k n ≡ found line number (occupants slots) k n
  found_later k n l at later = found_both k n ∙ ap (λ p. option_or p (found line number (occupants slots) k n)) (shown_free k n l at later)

  -- a number that no event has is beyond what is shown, and has no slot
  pub free_number : (k n : ℕ) (l : Line) → slice_get lines k ≡ Some l → 0 < n → found line number (shown ++ occupants slots) k n ≡ None → (l.shown < n) × (slot_at l n ≡ None)
  free_number k n l at positive none = (later, free)
    where
      later : l.shown < n
      later = ⊎_elim
          (λ (after : l.shown < n). after)
          (λ (early : n ≤ l.shown).
          let count = (tails k l at).count in
          let here : is_some (found line number shown k n) ≡ true = (exact_owns line number shown numbered).0 k n ∙ grind (arith, nat_tests) in
          let there = ap is_some (sym (found_shown k n l at early) ∙ none) in
          absurd cc)
          (cases_lt l.shown n)

      held : (o : Option ℕ) → slot_at l n ≡ o → o ≡ None
      held None is = refl
      held (Some s) is =
          let has = index.known k n s l at is in
          let here = found_slot k n s l at is (Some has.entry) has.there in
          absurd cc

      free : slot_at l n ≡ None
      free = held (slot_at l n) refl

  -- beyond the greatest number there is no event
  pub found_beyond : (k n : ℕ) (l : Line) → slice_get lines k ≡ Some l → 2 ^ 64 ≤ n → found line number (shown ++ occupants slots) k n ≡ None
  found_beyond k n l at beyond =
      let fits = (tails k l at).fits in
      let none : (o : Option ℕ) → slot_at l n ≡ o → o ≡ None = λ o is. held o is in
      found_free k n l at (omega (arith, fits, beyond)) (none (slot_at l n) refl)
    where
      held : (o : Option ℕ) → slot_at l n ≡ o → o ≡ None
      held None is = refl
      held (Some s) is = let limit = (index.known k n s l at is).fits in absurd (omega (arith, limit, beyond))

  -- every event that arrived is the one that is found by its number
  pub owned : (e : Entry) → Contains (shown ++ occupants slots) e → found line number (shown ++ occupants slots) (line e) (number e) ≡ Some e
  owned e h = ⊎_elim
      (λ (before : Contains shown e). found_both (line e) (number e) ∙ ap (λ o. option_or o (found line number (occupants slots) (line e) (number e))) ((exact_owns line number shown numbered).1 e before))
      (λ (held : Contains (occupants slots) e).
      let slot = slot_of slots e held in
      let name = index.named slot.0 e slot.1 in
      found_slot (line e) (number e) slot.0 name.own name.there name.slot (Some e) slot.1)
      (Contains-append_cases shown (occupants slots) e h)
