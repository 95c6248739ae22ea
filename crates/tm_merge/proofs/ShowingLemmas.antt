-- What stored arrivals keep as an event is shown.
use Rattle.std.proofs.Common.{◌≡◌, ◌≢◌, ℕ, suc, ◌-◌, ◌^◌, ◌<◌, ◌≤◌, true, false, nat_le, ⊎_elim, List, [], ◌∷◌, ◌++◌, Option, Some, None, slice_get, slice_set, length, length-append, length-set, Contains, sym, ap, ◌∙◌, subst, arith}
use Rattle.std.specs.Vec.{vec_capacity}
use Rattle.std.specs.List.Sorted.{IsPermutation}
use Rattle.std.proofs.lemmas.Bool.{cases_Bool, cases_eq, cond-true, cond-false, le-leb, lt-leb, leb-true, leb-false}
use Rattle.std.proofs.lemmas.Option.{slice_get_within}
use Rattle.std.proofs.lemmas.List.Elements.{Contains-append_left, Contains-append_right, Contains-append_cases, Contains-push_cases}
use Rattle.std.proofs.lemmas.List.Sorted.{IsPermutation-sym, Contains-permutation, length_permutation}
use Rattle.tm_base.specs.declared.events.Entry.{Entry}
use Rattle.tm_merge.specs.declared.arrivals.Arrivals.{Arrivals}
use Rattle.tm_merge.specs.declared.lines.Line.{Line}
use Rattle.tm_merge.specs.Lines.{slot_at, ShowsNext}
use Rattle.tm_merge.specs.MergerViews.{arrived}
use Rattle.tm_merge.specs.Numbering.{IsNumberedBy, IsNumbered}
use Rattle.tm_merge.specs.Showing.{IsReady, IsNext, IsSettled, Shows}
use Rattle.tm_merge.specs.Places.{has_predecessors}
use Rattle.tm_merge.specs.StoredArrivals.{occupants, view_of, IsIndexed, HasSlot, IsNamed, AreTails, KeepsArrivals}
use Rattle.tm_merge.proofs.IndexLemmas.{slot_at-later}
use Rattle.tm_merge.proofs.ListLemmas.{slice_get-set_cases, slice_get-set_same, slice_get-set_other}
use Rattle.tm_merge.proofs.ReadyLemmas.{slot_named}
use Rattle.tm_merge.proofs.SlotsLemmas.{occupants-free, held_in, slot_of}
use Rattle.tm_merge.proofs.TailsLemmas.{tails-next, numbered-next}

module _ (line number : Entry → ℕ) (lines : List Line) (shown : List Entry) (slots : List (Option Entry))
    (index : IsIndexed line number lines slots) (tails : AreTails line number lines shown) (numbered : IsNumberedBy line number shown)
    (s : ℕ) (e : Entry) (l m : Line) (there : slice_get slots s ≡ Some (Some e)) (at : slice_get lines (line e) ≡ Some l)
    (next : number e ≡ suc l.shown) (shows : ShowsNext l (number e) e m) where
  own_slot : slot_at l (number e) ≡ Some s
  own_slot = slot_named line number lines shown slots index tails numbered s e l there at

  -- the slots of the other events stay
  lift : (k n r : ℕ) → HasSlot line number slots k n r → r ≢ s → HasSlot line number (slice_set slots s None) k n r
  lift k n r has apart = record { entry = has.entry; there = slice_get-set_other slots s r None apart ∙ has.there; line_is = has.line_is; number_is = has.number_is; fits = has.fits }

  later_slot : (n : ℕ) → number e < n → slot_at m n ≡ slot_at l n
  later_slot n later = shows.slots n ∙ cond-false (nat_le n (number e)) None (slot_at l n) (lt-leb n (number e) later)

  gone : (n : ℕ) → n ≤ number e → slot_at m n ≡ None
  gone n early = shows.slots n ∙ cond-true (nat_le n (number e)) None (slot_at l n) (le-leb n (number e) early)

  known_here : (n r : ℕ) → slot_at m n ≡ Some r → HasSlot line number (slice_set slots s None) (line e) n r
  known_here n r slot = ⊎_elim
      (λ (early : nat_le n (number e) ≡ true). let none = gone n (leb-true n (number e) early) in absurd cc)
      (λ (late : nat_le n (number e) ≡ false).
      let later = leb-false n (number e) late in
      let has = index.known (line e) n r l at (sym (later_slot n later) ∙ slot) in
      lift (line e) n r has
      (λ same.
      let here : slice_get slots s ≡ Some (Some has.entry) = subst (λ i. slice_get slots i ≡ Some (Some has.entry)) same has.there in
      let is : has.entry ≡ e = cc in
      let numbers = ap number is in
      let own = has.number_is in
      omega (arith, numbers, own, later)))
      (cases_Bool (nat_le n (number e)))

  pub index-shows : IsIndexed line number (slice_set lines (line e) m) (slice_set slots s None)
  index-shows = record { known = known; named = named }
    where
      here_is : slice_get (slice_set lines (line e) m) (line e) ≡ Some m
      here_is = slice_get-set_same lines (line e) m (slice_get_within lines (line e) l at)

      known : (j n r : ℕ) (x : Line) → slice_get (slice_set lines (line e) m) j ≡ Some x → slot_at x n ≡ Some r → HasSlot line number (slice_set slots s None) j n r
      known j n r x at_j slot = ⊎_elim
          (λ (here : (j ≡ line e) × (x ≡ m)). subst (λ i. HasSlot line number (slice_set slots s None) i n r) (sym here.0) (known_here n r (subst (λ y. slot_at y n ≡ Some r) here.1 slot)))
          (λ (other : (j ≢ line e) × (slice_get lines j ≡ Some x)).
          let has = index.known j n r x other.1 slot in
          lift j n r has
          (λ same.
          let here : slice_get slots s ≡ Some (Some has.entry) = subst (λ i. slice_get slots i ≡ Some (Some has.entry)) same has.there in
          let is : has.entry ≡ e = cc in
          other.0 (sym has.line_is ∙ ap line is)))
          (slice_get-set_cases lines (line e) j m x at_j)

      named_old : (r : ℕ) (d : Entry) → r ≢ s → slice_get slots r ≡ Some (Some d) → IsNamed line number (slice_set lines (line e) m) d r
      named_old r d apart old =
          let name = index.named r d old in
          ⊎_elim
          (λ (here : line d ≡ line e).
          let own : slice_get lines (line e) ≡ Some name.own = subst (λ i. slice_get lines i ≡ Some name.own) here name.there in
          let is : name.own ≡ l = cc in
          let slot : slot_at l (number d) ≡ Some r = subst (λ y. slot_at y (number d) ≡ Some r) is name.slot in
          let behind = slot_at-later l (number d) r slot in
          let differs : number d ≢ number e = λ same. let twice : slot_at l (number d) ≡ Some s = subst (λ i. slot_at l i ≡ Some s) (sym same) own_slot in apart cc in
          let later : number e < number d = omega (arith, behind, differs, next) in
          record { own = m; there = subst (λ i. slice_get (slice_set lines (line e) m) i ≡ Some m) (sym here) here_is; slot = later_slot (number d) later ∙ slot })
          (λ (other : line d ≢ line e). record { own = name.own; there = slice_get-set_other lines (line e) (line d) m other ∙ name.there; slot = name.slot })
          (cases_eq (line d) (line e))

      named : (r : ℕ) (d : Entry) → slice_get (slice_set slots s None) r ≡ Some (Some d) → IsNamed line number (slice_set lines (line e) m) d r
      named r d at_r = ⊎_elim
          (λ (here : (r ≡ s) × (Some d ≡ None)). absurd cc)
          (λ (other : (r ≢ s) × (slice_get slots r ≡ Some (Some d))). named_old r d other.0 other.1)
          (slice_get-set_cases slots s r None (Some d) at_r)

  limit : number e < 2 ^ 64
  limit = (index.known (line e) (number e) s l at own_slot).fits

  pub tails-shows : AreTails line number (slice_set lines (line e) m) (shown ++ e ∷ [])
  tails-shows = tails-next line number lines shown tails numbered e l m at next limit shows

  pub numbered-shows : IsNumberedBy line number (shown ++ e ∷ [])
  numbered-shows = numbered-next line number lines shown tails numbered e l m at next limit shows

-- the next event is shown
module _ (a b : Arrivals) (e : Entry) (keeps : KeepsArrivals a) (s : ℕ) (there : slice_get a.slots.items s ≡ Some (Some e)) (next : IsNext (view_of a) e) (l m o p : Line)
    (at_l : slice_get a.threads.items e.thread ≡ Some l) (at_o : slice_get a.objects.items e.object ≡ Some o)
    (place : e.place ≡ suc l.shown) (at : e.at ≡ suc o.shown)
    (shows_l : ShowsNext l e.place e m) (shows_o : ShowsNext o e.at e p)
    (threads : b.threads.items ≡ slice_set a.threads.items e.thread m) (objects : b.objects.items ≡ slice_set a.objects.items e.object p)
    (shown : b.shown.items ≡ a.shown.items ++ e ∷ []) (slots : b.slots.items ≡ slice_set a.slots.items s None) where
  left : IsPermutation (occupants a.slots.items) (e ∷ occupants b.slots.items)
  left = subst (λ ss. IsPermutation (occupants a.slots.items) (e ∷ occupants ss)) (sym slots) (occupants-free a.slots.items s e there)

  pub shows : Shows (view_of a) e (view_of b)
  shows = record {
    next = next;
    same_threads = ap (λ ls. length ls - 1) threads ∙ ap (λ n. n - 1) (length-set a.threads.items e.thread m);
    same_objects = ap length objects ∙ length-set a.objects.items e.object p;
    shown = shown;
    held = left;
  }

  pub fewer : length (occupants a.slots.items) ≡ suc (length (occupants b.slots.items))
  fewer = sym (length_permutation (occupants a.slots.items) (e ∷ occupants b.slots.items) left)

  had : (x : Entry) → Contains (arrived (view_of b)) x → Contains (arrived (view_of a)) x
  had x h = ⊎_elim
      (λ (in_shown : Contains b.shown.items x). ⊎_elim
      (λ (before : Contains a.shown.items x). Contains-append_left a.shown.items (occupants a.slots.items) x before)
      (λ (new : e ≡ x). subst (Contains (arrived (view_of a))) new (Contains-append_right a.shown.items (occupants a.slots.items) e (held_in a.slots.items s e there)))
      (Contains-push_cases a.shown.items e x (subst (λ es. Contains es x) shown in_shown)))
      (λ (in_held : Contains (occupants b.slots.items) x).
      Contains-append_right a.shown.items (occupants a.slots.items) x
      (Contains-permutation (e ∷ occupants b.slots.items) (occupants a.slots.items) x (IsPermutation-sym (occupants a.slots.items) (e ∷ occupants b.slots.items) left)
      (Contains-append_right (e ∷ []) (occupants b.slots.items) x in_held)))
      (Contains-append_cases b.shown.items (occupants b.slots.items) x h)

  pub keeps-shows : b.held ≡ a.held - 1 → vec_capacity a.shown ≤ vec_capacity b.shown → KeepsArrivals b
  keeps-shows held capacity =
      let one_less = fewer in
      let counted = keeps.count in
      let room = keeps.room in
      let longer = ap length shown ∙ length-append a.shown.items (e ∷ []) in
      record {
        main = omega (arith, keeps.main, ap length threads, length-set a.threads.items e.thread m);
        threads = rw (threads, slots) (index-shows (λ e. e.thread) (λ e. e.place) a.threads.items a.shown.items a.slots.items keeps.threads keeps.thread_tails keeps.numbered.threads s e l m there at_l place shows_l);
        objects = rw (objects, slots) (index-shows (λ e. e.object) (λ e. e.at) a.objects.items a.shown.items a.slots.items keeps.objects keeps.object_tails keeps.numbered.objects s e o p there at_o at shows_o);
        thread_tails = rw (threads, shown) (tails-shows (λ e. e.thread) (λ e. e.place) a.threads.items a.shown.items a.slots.items keeps.threads keeps.thread_tails keeps.numbered.threads s e l m there at_l place shows_l);
        object_tails = rw (objects, shown) (tails-shows (λ e. e.object) (λ e. e.at) a.objects.items a.shown.items a.slots.items keeps.objects keeps.object_tails keeps.numbered.objects s e o p there at_o at shows_o);
        numbered = subst IsNumbered (sym shown) (record {
          threads = numbered-shows (λ e. e.thread) (λ e. e.place) a.threads.items a.shown.items a.slots.items keeps.threads keeps.thread_tails keeps.numbered.threads s e l m there at_l place shows_l;
          objects = numbered-shows (λ e. e.object) (λ e. e.at) a.objects.items a.shown.items a.slots.items keeps.objects keeps.object_tails keeps.numbered.objects s e o p there at_o at shows_o;
        });
        rise = λ x y in_x in_y direct. keeps.rise x y (had x in_x) (had y in_y) direct;
        count = omega (arith, held, counted, one_less);
        room = omega (arith, held, counted, one_less, room, longer, capacity);
      }

-- what is known of a ready event, and where none is
module _ (a : Arrivals) (keeps : KeepsArrivals a) where
  pub thread_there : (e : Entry) → Contains (occupants a.slots.items) e → e.thread < length a.threads.items
  thread_there e h =
      let slot = slot_of a.slots.items e h in
      let name = keeps.threads.named slot.0 e slot.1 in
      slice_get_within a.threads.items e.thread name.own name.there

  pub object_there : (e : Entry) → Contains (occupants a.slots.items) e → e.object < length a.objects.items
  object_there e h =
      let slot = slot_of a.slots.items e h in
      let name = keeps.objects.named slot.0 e slot.1 in
      slice_get_within a.objects.items e.object name.own name.there

  pub settled : (n : ℕ) → length a.threads.items ≤ n → ((e : Entry) → IsReady (view_of a) e → n ≤ e.thread) → IsSettled (view_of a)
  settled n all none e h = ⊎_elim
      (λ (after : has_predecessors a.shown.items e ≡ true).
      let late = none e (record { held = h; after = after }) in
      let there = thread_there e h in
      absurd (omega (arith, all, late, there)))
      (λ (lacks : has_predecessors a.shown.items e ≡ false). lacks)
      (cases_Bool (has_predecessors a.shown.items e))

  -- where nothing is held, nothing is ready
  pub settled_empty : a.held ≡ 0 → IsSettled (view_of a)
  settled_empty nothing e h =
      let count = keeps.count in
      let within = h.1 in
      absurd (omega (arith, nothing, count, within))
