-- What the lines keep as room is made and as an event arrives.
use Rattle.std.proofs.Common.{◌≡◌, ◌≢◌, ℕ, ◌^◌, ◌<◌, ◌==◌, ⊎_elim, List, [], ◌∷◌, ◌++◌, Option, Some, None, slice_get, slice_set, length, refl, sym, ap, ◌∙◌, subst, arith}
use Rattle.std.proofs.lemmas.Bool.{cases_eq, eq-eqb, ne_eqb, cond-true, cond-false}
use Rattle.std.proofs.lemmas.Option.{slice_get_within}
use Rattle.tm_base.specs.declared.events.Entry.{Entry}
use Rattle.tm_merge.specs.declared.lines.Line.{Line}
use Rattle.tm_merge.specs.Lines.{slot_at, IsSameLine, Gains}
use Rattle.tm_merge.specs.StoredArrivals.{found, IsIndexed, HasSlot, IsNamed, IsTail, AreTails}
use Rattle.tm_merge.proofs.ListLemmas.{slice_get-set_cases, slice_get-set_same, slice_get-set_other, slice_get-snoc_cases, slice_get-snoc_kept, slice_get-snoc_last}

module _ (line number : Entry → ℕ) (lines : List Line) (k : ℕ) (l m : Line) (at : slice_get lines k ≡ Some l) where
  set_here : slice_get (slice_set lines k m) k ≡ Some m
  set_here = slice_get-set_same lines k m (slice_get_within lines k l at)

  -- a line with the same tail takes the line's place
  pub tails-set : (shown : List Entry) → m.shown ≡ l.shown → m.last ≡ l.last → AreTails line number lines shown → AreTails line number (slice_set lines k m) shown
  tails-set shown same_shown same_last tails j x at_j = ⊎_elim
      (λ (here : (j ≡ k) × (x ≡ m)).
      let old = tails k l at in
      let tail : IsTail line number shown k m = record {
        count = same_shown ∙ old.count;
        last = same_last ∙ old.last ∙ ap (found line number shown k) (sym same_shown);
        fits = omega (arith, same_shown, old.fits);
      } in
      subst (λ y. IsTail line number shown j y) (sym here.1) (subst (λ i. IsTail line number shown i m) (sym here.0) tail))
      (λ (other : (j ≢ k) × (slice_get lines j ≡ Some x)). tails j x other.1)
      (slice_get-set_cases lines k j m x at_j)

  -- a line that holds the same takes the line's place
  pub index-same : (slots : List (Option Entry)) → IsSameLine l m → IsIndexed line number lines slots → IsIndexed line number (slice_set lines k m) slots
  index-same slots same index = record { known = known; named = named }
    where
      known : (j n s : ℕ) (x : Line) → slice_get (slice_set lines k m) j ≡ Some x → slot_at x n ≡ Some s → HasSlot line number slots j n s
      known j n s x at_j slot = ⊎_elim
          (λ (here : (j ≡ k) × (x ≡ m)).
          let old : slot_at l n ≡ Some s = sym (same.slots n) ∙ subst (λ y. slot_at y n ≡ Some s) here.1 slot in
          subst (λ i. HasSlot line number slots i n s) (sym here.0) (index.known k n s l at old))
          (λ (other : (j ≢ k) × (slice_get lines j ≡ Some x)). index.known j n s x other.1 slot)
          (slice_get-set_cases lines k j m x at_j)

      named : (s : ℕ) (e : Entry) → slice_get slots s ≡ Some (Some e) → IsNamed line number (slice_set lines k m) e s
      named s e there =
          let name = index.named s e there in
          ⊎_elim
          (λ (here : line e ≡ k).
          let own : slice_get lines k ≡ Some name.own = subst (λ i. slice_get lines i ≡ Some name.own) here name.there in
          let is : name.own ≡ l = cc in
          record {
            own = m;
            there = subst (λ i. slice_get (slice_set lines k m) i ≡ Some m) (sym here) set_here;
            slot = same.slots (number e) ∙ subst (λ y. slot_at y (number e) ≡ Some s) is name.slot;
          })
          (λ (other : line e ≢ k). record { own = name.own; there = slice_get-set_other lines k (line e) m other ∙ name.there; slot = name.slot })
          (cases_eq (line e) k)

-- an event arrives: its line names the slot that it gets
module _ (line number : Entry → ℕ) (lines : List Line) (slots : List (Option Entry)) (index : IsIndexed line number lines slots) (e : Entry) (l m : Line)
    (at : slice_get lines (line e) ≡ Some l) (free : slot_at l (number e) ≡ None) (fits : number e < 2 ^ 64) (gains : Gains l (number e) (length slots) m) where
  lift : (k n s : ℕ) → HasSlot line number slots k n s → HasSlot line number (slots ++ Some e ∷ []) k n s
  lift k n s has = record { entry = has.entry; there = slice_get-snoc_kept slots (Some e) s (Some has.entry) has.there; line_is = has.line_is; number_is = has.number_is; fits = has.fits }

  new_slot : HasSlot line number (slots ++ Some e ∷ []) (line e) (number e) (length slots)
  new_slot = record { entry = e; there = slice_get-snoc_last slots (Some e); line_is = refl; number_is = refl; fits = fits }

  gained : slot_at m (number e) ≡ Some (length slots)
  gained = gains.slots (number e) ∙ cond-true (number e == number e) (Some (length slots)) (slot_at l (number e)) (eq-eqb (number e) (number e) refl)

  others : (n : ℕ) → n ≢ number e → slot_at m n ≡ slot_at l n
  others n other = gains.slots n ∙ cond-false (n == number e) (Some (length slots)) (slot_at l n) (ne_eqb n (number e) other)

  known_here : (n s : ℕ) → slot_at m n ≡ Some s → HasSlot line number (slots ++ Some e ∷ []) (line e) n s
  known_here n s slot = ⊎_elim
      (λ (same : n ≡ number e).
      let again : slot_at m n ≡ Some (length slots) = subst (λ i. slot_at m i ≡ Some (length slots)) (sym same) gained in
      let slots_are : length slots ≡ s = cc in
      subst (λ r. HasSlot line number (slots ++ Some e ∷ []) (line e) n r) slots_are (subst (λ i. HasSlot line number (slots ++ Some e ∷ []) (line e) i (length slots)) (sym same) new_slot))
      (λ (other : n ≢ number e). lift (line e) n s (index.known (line e) n s l at (sym (others n other) ∙ slot)))
      (cases_eq n (number e))

  pub index-gains : IsIndexed line number (slice_set lines (line e) m) (slots ++ Some e ∷ [])
  index-gains = record { known = known; named = named }
    where
      known : (j n s : ℕ) (x : Line) → slice_get (slice_set lines (line e) m) j ≡ Some x → slot_at x n ≡ Some s → HasSlot line number (slots ++ Some e ∷ []) j n s
      known j n s x at_j slot = ⊎_elim
          (λ (here : (j ≡ line e) × (x ≡ m)).
          subst (λ i. HasSlot line number (slots ++ Some e ∷ []) i n s) (sym here.0) (known_here n s (subst (λ y. slot_at y n ≡ Some s) here.1 slot)))
          (λ (other : (j ≢ line e) × (slice_get lines j ≡ Some x)). lift j n s (index.known j n s x other.1 slot))
          (slice_get-set_cases lines (line e) j m x at_j)

      here_is : slice_get (slice_set lines (line e) m) (line e) ≡ Some m
      here_is = slice_get-set_same lines (line e) m (slice_get_within lines (line e) l at)

      named_new : IsNamed line number (slice_set lines (line e) m) e (length slots)
      named_new = record { own = m; there = here_is; slot = gained }

      named_old : (s : ℕ) (d : Entry) → slice_get slots s ≡ Some (Some d) → IsNamed line number (slice_set lines (line e) m) d s
      named_old s d there =
          let name = index.named s d there in
          ⊎_elim
          (λ (here : line d ≡ line e).
          let own : slice_get lines (line e) ≡ Some name.own = subst (λ i. slice_get lines i ≡ Some name.own) here name.there in
          let is : name.own ≡ l = cc in
          let slot : slot_at l (number d) ≡ Some s = subst (λ y. slot_at y (number d) ≡ Some s) is name.slot in
          let apart : number d ≢ number e = λ same. let none : slot_at l (number d) ≡ None = subst (λ i. slot_at l i ≡ None) (sym same) free in absurd cc in
          record { own = m; there = subst (λ i. slice_get (slice_set lines (line e) m) i ≡ Some m) (sym here) here_is; slot = others (number d) apart ∙ slot })
          (λ (other : line d ≢ line e). record { own = name.own; there = slice_get-set_other lines (line e) (line d) m other ∙ name.there; slot = name.slot })
          (cases_eq (line d) (line e))

      named : (s : ℕ) (d : Entry) → slice_get (slots ++ Some e ∷ []) s ≡ Some (Some d) → IsNamed line number (slice_set lines (line e) m) d s
      named s d there = ⊎_elim
          (λ (new : (s ≡ length slots) × (Some d ≡ Some e)).
          let is : d ≡ e = cc in
          subst (λ y. IsNamed line number (slice_set lines (line e) m) y s) (sym is) (subst (λ r. IsNamed line number (slice_set lines (line e) m) e r) (sym new.0) named_new))
          (λ (old : slice_get slots s ≡ Some (Some d)). named_old s d old)
          (slice_get-snoc_cases slots (Some e) s (Some d) there)
