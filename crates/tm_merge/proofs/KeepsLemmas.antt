-- What stored arrivals keep as room is made and as an event arrives.
use Rattle.std.proofs.Common.{◌≡◌, ℕ, suc, ◌+◌, ◌-◌, ◌^◌, ◌<◌, ◌≤◌, List, [], ◌∷◌, ◌++◌, Some, None, slice_get, slice_set, length, length-append, length-set, Contains, refl, sym, ap, ◌∙◌, subst, arith}
use Rattle.std.specs.Vec.{vec_capacity}
use Rattle.std.specs.List.Sorted.{IsPermutation}
use Rattle.std.proofs.lemmas.List.{append_assoc}
use Rattle.std.proofs.lemmas.List.Sorted.{IsPermutation-sym, IsPermutation-to_front}
use Rattle.tm_base.specs.declared.events.Entry.{Entry}
use Rattle.tm_base.specs.Orders.{StampsRise}
use Rattle.tm_merge.specs.declared.arrivals.Arrivals.{Arrivals}
use Rattle.tm_merge.specs.declared.lines.Line.{Line}
use Rattle.tm_merge.specs.Lines.{slot_at, Gains}
use Rattle.tm_merge.specs.MergerViews.{arrived}
use Rattle.tm_merge.specs.Numbering.{IsNumbered}
use Rattle.tm_merge.specs.Places.{at_place, at_object}
use Rattle.tm_merge.specs.Showing.{Joins}
use Rattle.tm_merge.specs.StoredArrivals.{occupants, view_of, IsIndexed, HasSlot, AreTails, KeepsArrivals}
use Rattle.tm_merge.proofs.ArrivingLemmas.{tails-set, index-gains}
use Rattle.tm_merge.proofs.IndexLemmas.{owned, free_number}
use Rattle.tm_merge.proofs.RefusalLemmas.{IsAccepted, rise-snoc}
use Rattle.tm_merge.proofs.SlotsLemmas.{occupants-snoc, held_in}

-- what makes no difference to the events that arrived
pub keeps-moved : (a b : Arrivals) → KeepsArrivals a → 0 < length b.threads.items
    → IsIndexed (λ e. e.thread) (λ e. e.place) b.threads.items a.slots.items → IsIndexed (λ e. e.object) (λ e. e.at) b.objects.items a.slots.items
    → AreTails (λ e. e.thread) (λ e. e.place) b.threads.items a.shown.items → AreTails (λ e. e.object) (λ e. e.at) b.objects.items a.shown.items
    → b.shown.items ≡ a.shown.items → b.slots.items ≡ a.slots.items → b.held ≡ a.held → vec_capacity a.shown ≤ vec_capacity b.shown → KeepsArrivals b
keeps-moved a b keeps main threads objects thread_tails object_tails shown slots held capacity = record {
  main = main;
  threads = subst (λ ss. IsIndexed (λ e. e.thread) (λ e. e.place) b.threads.items ss) (sym slots) threads;
  objects = subst (λ ss. IsIndexed (λ e. e.object) (λ e. e.at) b.objects.items ss) (sym slots) objects;
  thread_tails = subst (λ es. AreTails (λ e. e.thread) (λ e. e.place) b.threads.items es) (sym shown) thread_tails;
  object_tails = subst (λ es. AreTails (λ e. e.object) (λ e. e.at) b.objects.items es) (sym shown) object_tails;
  numbered = subst IsNumbered (sym shown) keeps.numbered;
  rise = subst (λ ss. StampsRise (b.shown.items ++ occupants ss)) (sym slots) (subst (λ es. StampsRise (es ++ occupants a.slots.items)) (sym shown) keeps.rise);
  count = held ∙ keeps.count ∙ ap (λ ss. length (occupants ss)) (sym slots);
  room = omega (arith, keeps.room, ap length shown, held, capacity);
}

module _ (a : Arrivals) (keeps : KeepsArrivals a) where
  pub places : (e : Entry) → Contains (arrived (view_of a)) e → at_place (arrived (view_of a)) e.thread e.place ≡ Some e
  places e h = owned (λ e. e.thread) (λ e. e.place) a.threads.items a.shown.items a.slots.items keeps.threads keeps.thread_tails keeps.numbered.threads e h

  pub ats : (e : Entry) → Contains (arrived (view_of a)) e → at_object (arrived (view_of a)) e.object e.at ≡ Some e
  ats e h = owned (λ e. e.object) (λ e. e.at) a.objects.items a.shown.items a.slots.items keeps.objects keeps.object_tails keeps.numbered.objects e h

  -- the lines of an event that isn't refused are there
  pub thread_line : (e : Entry) → IsAccepted (view_of a) e → e.thread < length a.threads.items
  thread_line e fits = omega (arith, fits.thread, keeps.main)

  pub object_line : (e : Entry) → IsAccepted (view_of a) e → e.object < length a.objects.items
  object_line e fits = omega (arith, fits.object)

  -- its numbers are free in them
  pub free_place : (e : Entry) (l : Line) → IsAccepted (view_of a) e → slice_get a.threads.items e.thread ≡ Some l → (l.shown < e.place) × (slot_at l e.place ≡ None)
  free_place e l fits at = free_number (λ e. e.thread) (λ e. e.place) a.threads.items a.shown.items a.slots.items keeps.threads keeps.thread_tails keeps.numbered.threads e.thread e.place l at fits.place fits.new_place

  pub free_at : (e : Entry) (l : Line) → IsAccepted (view_of a) e → slice_get a.objects.items e.object ≡ Some l → (l.shown < e.at) × (slot_at l e.at ≡ None)
  free_at e l fits at = free_number (λ e. e.object) (λ e. e.at) a.objects.items a.shown.items a.slots.items keeps.objects keeps.object_tails keeps.numbered.objects e.object e.at l at fits.at fits.new_at

-- an event that isn't refused arrives
module _ (a b : Arrivals) (e : Entry) (keeps : KeepsArrivals a) (fits : IsAccepted (view_of a) e) (l m o p : Line)
    (at_l : slice_get a.threads.items e.thread ≡ Some l) (at_o : slice_get a.objects.items e.object ≡ Some o)
    (gains_l : Gains l e.place (length a.slots.items) m) (gains_o : Gains o e.at (length a.slots.items) p)
    (small_place : e.place < 2 ^ 64) (small_at : e.at < 2 ^ 64)
    (threads : b.threads.items ≡ slice_set a.threads.items e.thread m) (objects : b.objects.items ≡ slice_set a.objects.items e.object p)
    (shown : b.shown.items ≡ a.shown.items) (slots : b.slots.items ≡ a.slots.items ++ Some e ∷ []) where
  now_held : occupants b.slots.items ≡ occupants a.slots.items ++ e ∷ []
  now_held = ap occupants slots ∙ occupants-snoc a.slots.items e

  now_arrived : arrived (view_of b) ≡ arrived (view_of a) ++ e ∷ []
  now_arrived = ap (λ es. es ++ occupants b.slots.items) shown ∙ ap (λ es. a.shown.items ++ es) now_held ∙ sym (append_assoc a.shown.items (occupants a.slots.items) (e ∷ []))

  pub joins : Joins (view_of a) e (view_of b)
  joins = record {
    same_threads = ap (λ ls. length ls - 1) threads ∙ ap (λ n. n - 1) (length-set a.threads.items e.thread m);
    same_objects = ap length objects ∙ length-set a.objects.items e.object p;
    shown = shown;
    held = subst (IsPermutation (e ∷ occupants a.slots.items)) (sym now_held) (IsPermutation-sym (occupants a.slots.items ++ e ∷ []) (e ∷ occupants a.slots.items) (IsPermutation-to_front (occupants a.slots.items) e));
  }

  pub keeps-joins : b.held ≡ suc a.held → suc (length a.shown.items + a.held) ≤ vec_capacity b.shown → KeepsArrivals b
  keeps-joins held room = record {
    main = omega (arith, keeps.main, ap length threads, length-set a.threads.items e.thread m);
    threads = rw (threads, slots) (index-gains (λ e. e.thread) (λ e. e.place) a.threads.items a.slots.items keeps.threads e l m at_l (free_place a keeps e l fits at_l).1 small_place gains_l);
    objects = rw (objects, slots) (index-gains (λ e. e.object) (λ e. e.at) a.objects.items a.slots.items keeps.objects e o p at_o (free_at a keeps e o fits at_o).1 small_at gains_o);
    thread_tails = rw (threads, shown) (tails-set (λ e. e.thread) (λ e. e.place) a.threads.items e.thread l m at_l a.shown.items gains_l.shown gains_l.last keeps.thread_tails);
    object_tails = rw (objects, shown) (tails-set (λ e. e.object) (λ e. e.at) a.objects.items e.object o p at_o a.shown.items gains_o.shown gains_o.last keeps.object_tails);
    numbered = subst IsNumbered (sym shown) keeps.numbered;
    rise = subst StampsRise (sym now_arrived) (rise-snoc (view_of a) e fits (places a keeps) (ats a keeps) keeps.rise);
    count = omega (arith, held, keeps.count, ap length now_held, length-append (occupants a.slots.items) (e ∷ []));
    room = omega (arith, held, room, ap length shown);
  }

-- the slots are given up, once they are all free
pub keeps-forgotten : (a b : Arrivals) → KeepsArrivals a → a.held ≡ 0 → b.slots.items ≡ [] → b.threads.items ≡ a.threads.items → b.objects.items ≡ a.objects.items → b.shown.items ≡ a.shown.items → b.held ≡ a.held → vec_capacity b.shown ≡ vec_capacity a.shown → KeepsArrivals b
keeps-forgotten a b keeps nothing slots threads objects shown held capacity = record {
  main = omega (arith, keeps.main, ap length threads);
  threads = rw (threads, slots) (record { known = λ k n s l at slot. gone_threads k n s l at slot; named = λ s e h. absurd cc });
  objects = rw (objects, slots) (record { known = λ k n s l at slot. gone_objects k n s l at slot; named = λ s e h. absurd cc });
  thread_tails = rw (threads, shown) keeps.thread_tails;
  object_tails = rw (objects, shown) keeps.object_tails;
  numbered = subst IsNumbered (sym shown) keeps.numbered;
  rise = subst StampsRise (sym same) keeps.rise;
  count = held ∙ nothing ∙ ap (λ ss. length (occupants ss)) (sym slots);
  room = omega (arith, keeps.room, ap length shown, held, capacity);
}
  where
    nil : (es : List Entry) → length es ≡ 0 → es ≡ []
    nil [] h = refl
    nil (e ∷ es) h = absurd (omega (arith, h))

    empty : occupants a.slots.items ≡ []
    empty = let none : length (occupants a.slots.items) ≡ 0 = sym keeps.count ∙ nothing in nil (occupants a.slots.items) none

    same : arrived (view_of b) ≡ arrived (view_of a)
    same = ap (λ es. es ++ occupants b.slots.items) shown ∙ ap (λ es. a.shown.items ++ es) (ap occupants slots ∙ sym empty)

    nobody : (s : ℕ) (e : Entry) → slice_get a.slots.items s ≡ Some (Some e) → ⊥
    nobody s e h =
        let there = subst (λ es. Contains es e) empty (held_in a.slots.items s e h) in
        omega (arith, there.1)

    gone_threads : (k n s : ℕ) (l : Line) → slice_get a.threads.items k ≡ Some l → slot_at l n ≡ Some s → HasSlot (λ e. e.thread) (λ e. e.place) [] k n s
    gone_threads k n s l at slot = let has = keeps.threads.known k n s l at slot in absurd (nobody s has.entry has.there)

    gone_objects : (k n s : ℕ) (l : Line) → slice_get a.objects.items k ≡ Some l → slot_at l n ≡ Some s → HasSlot (λ e. e.object) (λ e. e.at) [] k n s
    gone_objects k n s l at slot = let has = keeps.objects.known k n s l at slot in absurd (nobody s has.entry has.there)
