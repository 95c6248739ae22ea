-- Which of the stored events are ready, by the numbers that the lines have.
use Rattle.std.proofs.Common.{◌≡◌, ◌≢◌, ℕ, suc, ◌-◌, ◌^◌, ◌<◌, ◌≤◌, true, ◌==◌, ◌||◌, List, Option, Some, None, is_some, slice_get, length, sym, ap, ◌∙◌, subst, arith}
use Rattle.std.proofs.lemmas.Bool.{and_parts, and_from}
use Rattle.std.proofs.lemmas.Bool.Decides.{nat_tests}
use Rattle.std.proofs.lemmas.Option.{slice_get_within}
use Rattle.tm_base.specs.declared.events.Entry.{Entry}
use Rattle.tm_merge.specs.declared.arrivals.Arrivals.{Arrivals}
use Rattle.tm_merge.specs.declared.lines.Line.{Line}
use Rattle.tm_merge.specs.Candidates.{IsReadyIn, NoneReadyIn}
use Rattle.tm_merge.specs.Lines.{slot_at}
use Rattle.tm_merge.specs.Numbering.{IsNumberedBy}
use Rattle.tm_merge.specs.Places.{has_place, has_at}
use Rattle.tm_merge.specs.Showing.{IsReady}
use Rattle.tm_merge.specs.StoredArrivals.{found, view_of, IsIndexed, AreTails, KeepsArrivals}
use Rattle.tm_merge.proofs.IndexLemmas.{slot_at-later}
use Rattle.tm_merge.proofs.NumberingLemmas.{exact_owns}
use Rattle.tm_merge.proofs.SlotsLemmas.{slot_of, held_in}

module _ (line number : Entry → ℕ) (lines : List Line) (shown : List Entry) (slots : List (Option Entry))
    (index : IsIndexed line number lines slots) (tails : AreTails line number lines shown) (numbered : IsNumberedBy line number shown) where
  -- the line of an event that is held names its slot
  pub slot_named : (s : ℕ) (e : Entry) (l : Line) → slice_get slots s ≡ Some (Some e) → slice_get lines (line e) ≡ Some l → slot_at l (number e) ≡ Some s
  slot_named s e l there at =
      let name = index.named s e there in
      let own : slice_get lines (line e) ≡ Some name.own = name.there in
      let same : name.own ≡ l = cc in
      subst (λ m. slot_at m (number e) ≡ Some s) same name.slot

  -- what is directly before an event that is held is shown just where its number is the next one
  pub next_number : (s : ℕ) (e : Entry) (l : Line) → slice_get slots s ≡ Some (Some e) → slice_get lines (line e) ≡ Some l
      → (number e - 1 == 0 || is_some (found line number shown (line e) (number e - 1))) ≡ true → number e ≡ suc l.shown
  next_number s e l there at before =
      let later = slot_at-later l (number e) s (slot_named s e l there at) in
      let count = (tails (line e) l at).count in
      let exact = (exact_owns line number shown numbered).0 (line e) (number e - 1) in
      grind (arith, nat_tests)

  pub number_before : (e : Entry) (l : Line) → slice_get lines (line e) ≡ Some l → number e ≡ suc l.shown → (number e - 1 == 0 || is_some (found line number shown (line e) (number e - 1))) ≡ true
  number_before e l at next =
      let count = (tails (line e) l at).count in
      let exact = (exact_owns line number shown numbered).0 (line e) (number e - 1) in
      grind (arith, nat_tests)

-- where a ready event stands
pub record IsReadyAt (a : Arrivals) (e : Entry) (s : ℕ) : Type 0 where
  pub there : slice_get a.slots.items s ≡ Some (Some e)
  pub thread : (l : Line) → slice_get a.threads.items e.thread ≡ Some l → (e.place ≡ suc l.shown) × (slot_at l e.place ≡ Some s)
  pub object : (o : Line) → slice_get a.objects.items e.object ≡ Some o → e.at ≡ suc o.shown

-- the slot of the event is the one that the object's line names next
pub record IsNextSlot (a : Arrivals) (o : Line) (e : Entry) (s : ℕ) : Type 0 where
  pub there : slice_get a.slots.items s ≡ Some (Some e)
  pub slot : slot_at o (suc o.shown) ≡ Some s
  pub fits : suc o.shown < 2 ^ 64

module _ (a : Arrivals) (keeps : KeepsArrivals a) where
  pub ready_at : (e : Entry) → IsReady (view_of a) e → (s : ℕ) × IsReadyAt a e s
  ready_at e ready =
      let slot = slot_of a.slots.items e ready.held in
      let both = and_parts (has_place a.shown.items e.thread (e.place - 1)) (has_at a.shown.items e.object (e.at - 1)) ready.after in (
        slot.0,
        record {
          there = slot.1;
          thread = λ l at. (next_number (λ e. e.thread) (λ e. e.place) a.threads.items a.shown.items a.slots.items keeps.threads keeps.thread_tails keeps.numbered.threads slot.0 e l slot.1 at both.0, slot_named (λ e. e.thread) (λ e. e.place) a.threads.items a.shown.items a.slots.items keeps.threads keeps.thread_tails keeps.numbered.threads slot.0 e l slot.1 at);
          object = λ o at. next_number (λ e. e.object) (λ e. e.at) a.objects.items a.shown.items a.slots.items keeps.objects keeps.object_tails keeps.numbered.objects slot.0 e o slot.1 at both.1;
        },
      )

  pub next_slot : (k : ℕ) (o : Line) → slice_get a.objects.items k ≡ Some o → (e : Entry) → IsReady (view_of a) e → e.object ≡ k → (s : ℕ) × IsNextSlot a o e s
  next_slot k o at_k e ready same =
      let place = ready_at e ready in
      let at_o = subst (λ i. slice_get a.objects.items i ≡ Some o) (sym same) at_k in
      let slot = slot_named (λ e. e.object) (λ e. e.at) a.objects.items a.shown.items a.slots.items keeps.objects keeps.object_tails keeps.numbered.objects place.0 e o place.1.there at_o in
      let here : slot_at o (suc o.shown) ≡ Some place.0 = subst (λ n. slot_at o n ≡ Some place.0) (place.1.object o at_o) slot in
      (place.0, record { there = place.1.there; slot = here; fits = (keeps.objects.known k (suc o.shown) place.0 o at_k here).fits })

  pub ready_from : (s : ℕ) (e : Entry) (l o : Line) → slice_get a.slots.items s ≡ Some (Some e) → slice_get a.threads.items e.thread ≡ Some l → slice_get a.objects.items e.object ≡ Some o
      → e.place ≡ suc l.shown → e.at ≡ suc o.shown → IsReady (view_of a) e
  ready_from s e l o there at_l at_o place at = record {
    held = held_in a.slots.items s e there;
    after = and_from (has_place a.shown.items e.thread (e.place - 1)) (has_at a.shown.items e.object (e.at - 1))
        (number_before (λ e. e.thread) (λ e. e.place) a.threads.items a.shown.items a.slots.items keeps.threads keeps.thread_tails keeps.numbered.threads e l at_l place)
        (number_before (λ e. e.object) (λ e. e.at) a.objects.items a.shown.items a.slots.items keeps.objects keeps.object_tails keeps.numbered.objects e o at_o at);
  }

  -- one thread's events
  module _ (t : ℕ) (l : Line) (at_l : slice_get a.threads.items t ≡ Some l) where
    pub none_ready : (suc l.shown < 2 ^ 64 → slot_at l (suc l.shown) ≡ None) → NoneReadyIn a t
    none_ready free e ready same =
        let place = ready_at e ready in
        let own = place.1.thread l (subst (λ k. slice_get a.threads.items k ≡ Some l) (sym same) at_l) in
        let slot : slot_at l (suc l.shown) ≡ Some place.0 = subst (λ n. slot_at l n ≡ Some place.0) own.0 own.1 in
        let limit = (keeps.threads.known t (suc l.shown) place.0 l at_l slot).fits in
        let none = free limit in
        absurd cc

    module _ (s : ℕ) (e : Entry) (slot : slot_at l (suc l.shown) ≡ Some s) (there : slice_get a.slots.items s ≡ Some (Some e)) where
      own_object : (o : Line) × (slice_get a.objects.items e.object ≡ Some o) × (o.shown < e.at)
      own_object =
          let name = keeps.objects.named s e there in
          (name.own, name.there, slot_at-later name.own e.at s name.slot)

      pub object_there : e.object < length a.objects.items
      object_there = slice_get_within a.objects.items e.object own_object.0 own_object.1

      pub at_positive : 1 ≤ e.at
      at_positive = let later = own_object.2 in omega (arith, later)

      -- it is the thread's only event that can be ready
      only : (d : Entry) → IsReady (view_of a) d → d.thread ≡ t → d ≡ e
      only d ready same =
          let place = ready_at d ready in
          let own = place.1.thread l (subst (λ k. slice_get a.threads.items k ≡ Some l) (sym same) at_l) in
          let other : slot_at l (suc l.shown) ≡ Some place.0 = subst (λ n. slot_at l n ≡ Some place.0) own.0 own.1 in
          let slots_are : place.0 ≡ s = cc in
          let at_s : slice_get a.slots.items s ≡ Some (Some d) = subst (λ r. slice_get a.slots.items r ≡ Some (Some d)) slots_are place.1.there in
          cc

      module _ (o : Line) (at_o : slice_get a.objects.items e.object ≡ Some o) where
        pub not_ready : e.at - 1 ≢ o.shown → NoneReadyIn a t
        not_ready differs d ready same =
            let is = only d ready same in
            let place = ready_at d ready in
            let at : d.at ≡ suc o.shown = place.1.object o (subst (λ (x : Entry). slice_get a.objects.items x.object ≡ Some o) (sym is) at_o) in
            let ats : d.at ≡ e.at = ap (λ (x : Entry). x.at) is in
            differs (omega (arith, at, ats))

        pub is_ready : e.at - 1 ≡ o.shown → IsReadyIn a t (record { slot = s; entry = e })
        is_ready equal =
            let has = keeps.threads.known t (suc l.shown) s l at_l slot in
            let same : has.entry ≡ e = let own = has.there in cc in
            let in_thread : e.thread ≡ t = ap (λ (x : Entry). x.thread) (sym same) ∙ has.line_is in
            let place : e.place ≡ suc l.shown = ap (λ (x : Entry). x.place) (sym same) ∙ has.number_is in
            record {
              there = there;
              ready = ready_from s e l o there (subst (λ k. slice_get a.threads.items k ≡ Some l) (sym in_thread) at_l) at_o place (let positive = at_positive in omega (arith, positive, equal));
              thread = in_thread;
              only = only;
            }
