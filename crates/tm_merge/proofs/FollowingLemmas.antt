-- What stored arrivals keep as an event follows what is shown.
use Rattle.std.proofs.Common.{◌≡◌, ◌≢◌, ℕ, suc, ◌+◌, ◌-◌, ◌^◌, ◌<◌, ◌≤◌, true, false, nat_lt, nat_le, ⊎_elim, List, [], ◌∷◌, ◌++◌, Option, Some, None, slice_get, slice_set, length, length-append, length-set, Contains, refl, sym, ap, ◌∙◌, subst, arith}
use Rattle.std.specs.HashMap.{get}
use Rattle.std.specs.List.{IsDistinct}
use Rattle.std.specs.Option.{option_or}
use Rattle.std.specs.Vec.{vec_capacity}
use Rattle.std.proofs.Common.{eqb, nat_eq}
use Rattle.std.proofs.lemmas.Bool.{cases_Bool, cond-true, cond-false, lt-ltb}
use Rattle.std.proofs.lemmas.Bool.Decides.{nat_tests}
use Rattle.std.proofs.lemmas.List.Elements.{Contains-append_left, Contains-append_right, Contains-append_cases, Contains-push_cases}
use Rattle.tm_base.specs.declared.events.Entry.{Entry}
use Rattle.tm_merge.specs.declared.arrivals.Arrivals.{Arrivals}
use Rattle.tm_merge.specs.declared.lines.Line.{Line}
use Rattle.tm_merge.specs.Following.{IsBare, IsFollowedBy, Follows, Appends}
use Rattle.tm_merge.specs.Lines.{slot_at, ShowsNext}
use Rattle.tm_merge.specs.MergerViews.{arrived}
use Rattle.tm_merge.specs.Numbering.{IsNumberedBy, IsNumbered}
use Rattle.tm_merge.specs.Places.{at_object, has_predecessors}
use Rattle.tm_merge.specs.ReadyThreads.{is_listed, ListsAllReady, ListsOnlyReady, KeepsAll}
use Rattle.tm_merge.specs.Refusals.{range_fault, twice, clash_before, clash_after, clash_at_object, clash, refusal}
use Rattle.tm_merge.specs.Showing.{IsReady}
use Rattle.tm_merge.specs.StoredArrivals.{found, occupants, view_of, IsIndexed, AreTails, KeepsArrivals}
use Rattle.tm_merge.proofs.IndexLemmas.{found_last, found_free}
use Rattle.tm_merge.proofs.KeepsLemmas.{keeps-moved, places, ats}
use Rattle.tm_merge.proofs.ListLemmas.{element_at, slice_get-set_cases, slice_get-set_other}
use Rattle.tm_merge.proofs.PredecessorsLemmas.{predecessors_in}
use Rattle.tm_merge.proofs.RefusalLemmas.{accepted, direct_cases, rise-snoc}
use Rattle.tm_merge.proofs.SlotsLemmas.{slot_of}
use Rattle.tm_merge.proofs.TailsLemmas.{tails-next, numbered-next}

-- no slot is named where none of the line's events is held
pub bare-free : (l : Line) → IsBare l → (n : ℕ) → slot_at l n ≡ None
bare-free l bare n = ⊎_elim
    (λ (early : nat_le n l.shown ≡ true). cond-true (nat_le n l.shown) None (option_or (slice_get l.waiting.items (n - suc l.shown)) (get nat_eq l.early n)) early)
    (λ (late : nat_le n l.shown ≡ false).
    cond-false (nat_le n l.shown) None (option_or (slice_get l.waiting.items (n - suc l.shown)) (get nat_eq l.early n)) late
    ∙ ap (λ ws. option_or (slice_get ws (n - suc l.shown)) (get nat_eq l.early n)) bare.waiting ∙ bare.early n)
    (cases_Bool (nat_le n l.shown))

-- in a line where none is held, the next event is shown
module _ (line number : Entry → ℕ) (lines : List Line) (shown : List Entry) (slots : List (Option Entry))
    (index : IsIndexed line number lines slots) (tails : AreTails line number lines shown) (numbered : IsNumberedBy line number shown)
    (e : Entry) (l m : Line) (at : slice_get lines (line e) ≡ Some l) (bare : IsBare l) (next : number e ≡ suc l.shown) (limit : number e < 2 ^ 64)
    (shows : ShowsNext l (number e) e m) where
  free : (n : ℕ) → slot_at m n ≡ None
  free n = ⊎_elim
      (λ (early : nat_le n (number e) ≡ true). shows.slots n ∙ cond-true (nat_le n (number e)) None (slot_at l n) early)
      (λ (late : nat_le n (number e) ≡ false). shows.slots n ∙ cond-false (nat_le n (number e)) None (slot_at l n) late ∙ bare-free l bare n)
      (cases_Bool (nat_le n (number e)))

  -- no event of the line is held
  pub elsewhere : (s : ℕ) (d : Entry) → slice_get slots s ≡ Some (Some d) → line d ≢ line e
  elsewhere s d there here =
      let name = index.named s d there in
      let own : slice_get lines (line e) ≡ Some name.own = subst (λ i. slice_get lines i ≡ Some name.own) here name.there in
      let is : name.own ≡ l = cc in
      let slot : slot_at l (number d) ≡ Some s = subst (λ y. slot_at y (number d) ≡ Some s) is name.slot in
      let none = bare-free l bare (number d) in
      cc

  pub index-follows : IsIndexed line number (slice_set lines (line e) m) slots
  index-follows = record {
    known = λ j n s x at_j slot. ⊎_elim
        (λ (here : (j ≡ line e) × (x ≡ m)). let none = free n in let own : slot_at m n ≡ Some s = subst (λ y. slot_at y n ≡ Some s) here.1 slot in absurd cc)
        (λ (other : (j ≢ line e) × (slice_get lines j ≡ Some x)). index.known j n s x other.1 slot)
        (slice_get-set_cases lines (line e) j m x at_j);
    named = λ s d there.
        let name = index.named s d there in
        record { own = name.own; there = slice_get-set_other lines (line e) (line d) m (elsewhere s d there) ∙ name.there; slot = name.slot };
  }

-- an event that follows isn't refused
clash_before_none : (o : Option Entry) (e : Entry) → ((a : Entry) → o ≡ Some a → a.stamp < e.stamp) → clash_before o e ≡ None
clash_before_none None e rises = refl
clash_before_none (Some a) e rises = cond-true (nat_lt a.stamp e.stamp) None (Some a) (lt-ltb a.stamp e.stamp (rises a refl))

module _ (a : Arrivals) (keeps : KeepsArrivals a) (e : Entry) (follows : Follows a e) where
  module _ (line number : Entry → ℕ) (lines : List Line) (index : IsIndexed line number lines a.slots.items) (tails : AreTails line number lines a.shown.items) (numbered : IsNumberedBy line number a.shown.items)
      (l : Line) (at : slice_get lines (line e) ≡ Some l) (next : IsFollowedBy l (number e) e.stamp) where
    here_none : found line number (arrived (view_of a)) (line e) (number e) ≡ None
    here_none = let is = next.next in found_free line number lines a.shown.items a.slots.items index tails numbered (line e) (number e) l at (omega (arith, is)) (bare-free l next.bare (number e))

    after_none : found line number (arrived (view_of a)) (line e) (suc (number e)) ≡ None
    after_none = let is = next.next in found_free line number lines a.shown.items a.slots.items index tails numbered (line e) (suc (number e)) l at (omega (arith, is)) (bare-free l next.bare (suc (number e)))

    before_is : found line number (arrived (view_of a)) (line e) (number e - 1) ≡ l.last
    before_is =
        let is = next.next in
        let same : number e - 1 ≡ l.shown = omega (arith, is) in
        ap (found line number (arrived (view_of a)) (line e)) same ∙ found_last line number lines a.shown.items a.slots.items index tails numbered (line e) l at

    no_clash : option_or (clash_before (found line number (arrived (view_of a)) (line e) (number e - 1)) e) (clash_after (found line number (arrived (view_of a)) (line e) (suc (number e))) e) ≡ None
    no_clash =
        ap (λ o. option_or o (clash_after (found line number (arrived (view_of a)) (line e) (suc (number e))) e)) (clash_before_none (found line number (arrived (view_of a)) (line e) (number e - 1)) e (λ b is. next.rises b (sym before_is ∙ is)))
        ∙ ap (λ o. clash_after o e) after_none

  in_thread : (l : Line) × (slice_get a.threads.items e.thread ≡ Some l)
  in_thread = element_at a.threads.items e.thread follows.known_thread

  at_its_object : (l : Line) × (slice_get a.objects.items e.object ≡ Some l)
  at_its_object = element_at a.objects.items e.object follows.known_object

  no_fault : range_fault (view_of a) e ≡ None
  no_fault =
      let place = (follows.thread in_thread.0 in_thread.1).next in
      let at = (follows.object at_its_object.0 at_its_object.1).next in
      let thread = follows.known_thread in
      let object = follows.known_object in
      let stamp = follows.stamp in
      grind (arith, nat_tests)

  no_other : twice (view_of a) e ≡ None
  no_other =
      let place = here_none (λ d. d.thread) (λ d. d.place) a.threads.items keeps.threads keeps.thread_tails keeps.numbered.threads in_thread.0 in_thread.1 (follows.thread in_thread.0 in_thread.1) in
      let at = here_none (λ d. d.object) (λ d. d.at) a.objects.items keeps.objects keeps.object_tails keeps.numbered.objects at_its_object.0 at_its_object.1 (follows.object at_its_object.0 at_its_object.1) in
      ap (λ o. option_or o (at_object (arrived (view_of a)) e.object e.at)) place ∙ at

  no_break : clash (view_of a) e ≡ None
  no_break =
      let thread = no_clash (λ d. d.thread) (λ d. d.place) a.threads.items keeps.threads keeps.thread_tails keeps.numbered.threads in_thread.0 in_thread.1 (follows.thread in_thread.0 in_thread.1) in
      let object = no_clash (λ d. d.object) (λ d. d.at) a.objects.items keeps.objects keeps.object_tails keeps.numbered.objects at_its_object.0 at_its_object.1 (follows.object at_its_object.0 at_its_object.1) in
      ap (λ o. option_or o (clash_at_object (view_of a) e)) thread ∙ object

  pub not_refused : refusal (view_of a) e ≡ None
  not_refused = rw (no_fault, no_other, no_break) refl

-- the event is put behind the shown ones
module _ (a b : Arrivals) (e : Entry) (all : KeepsAll a) (follows : Follows a e) (l m o p : Line)
    (at_l : slice_get a.threads.items e.thread ≡ Some l) (at_o : slice_get a.objects.items e.object ≡ Some o)
    (shows_l : ShowsNext l e.place e m) (shows_o : ShowsNext o e.at e p) (small_place : e.place < 2 ^ 64) (small_at : e.at < 2 ^ 64)
    (threads : b.threads.items ≡ slice_set a.threads.items e.thread m) (objects : b.objects.items ≡ slice_set a.objects.items e.object p)
    (shown : b.shown.items ≡ a.shown.items ++ e ∷ []) (slots : b.slots ≡ a.slots) (ready : b.ready ≡ a.ready) where
  pub appends : Appends (view_of a) e (view_of b)
  appends = record {
    same_threads = ap (λ ls. length ls - 1) threads ∙ ap (λ n. n - 1) (length-set a.threads.items e.thread m);
    same_objects = ap length objects ∙ length-set a.objects.items e.object p;
    shown = shown;
    held = ap (λ ss. occupants ss.items) slots;
  }

  slot_items : b.slots.items ≡ a.slots.items
  slot_items = ap (λ ss. ss.items) slots

  in_l : IsFollowedBy l e.place e.stamp
  in_l = follows.thread l at_l

  in_o : IsFollowedBy o e.at e.stamp
  in_o = follows.object o at_o

  had : (x : Entry) → Contains (arrived (view_of b)) x → Contains (arrived (view_of a) ++ e ∷ []) x
  had x h = ⊎_elim
      (λ (in_shown : Contains b.shown.items x). ⊎_elim
      (λ (before : Contains a.shown.items x). Contains-append_left (arrived (view_of a)) (e ∷ []) x (Contains-append_left a.shown.items (occupants a.slots.items) x before))
      (λ (new : e ≡ x). subst (Contains (arrived (view_of a) ++ e ∷ [])) new (Contains-append_right (arrived (view_of a)) (e ∷ []) e (0, omega arith, refl)))
      (Contains-push_cases a.shown.items e x (subst (λ es. Contains es x) shown in_shown)))
      (λ (in_held : Contains (occupants b.slots.items) x).
      Contains-append_left (arrived (view_of a)) (e ∷ []) x (Contains-append_right a.shown.items (occupants a.slots.items) x (subst (λ ss. Contains (occupants ss) x) slot_items in_held)))
      (Contains-append_cases b.shown.items (occupants b.slots.items) x h)

  pub keeps-follows : b.held ≡ a.held → suc (length a.shown.items + a.held) ≤ vec_capacity b.shown → KeepsArrivals b
  keeps-follows held room =
      let keeps = all.keeps in
      let longer = ap length shown ∙ length-append a.shown.items (e ∷ []) in
      let rises = rise-snoc (view_of a) e (accepted (view_of a) e (not_refused a keeps e follows)) (places a keeps) (ats a keeps) keeps.rise in
      record {
        main = omega (arith, keeps.main, ap length threads, length-set a.threads.items e.thread m);
        threads = rw (threads, slot_items) (index-follows (λ d. d.thread) (λ d. d.place) a.threads.items a.shown.items a.slots.items keeps.threads keeps.thread_tails keeps.numbered.threads e l m at_l in_l.bare in_l.next small_place shows_l);
        objects = rw (objects, slot_items) (index-follows (λ d. d.object) (λ d. d.at) a.objects.items a.shown.items a.slots.items keeps.objects keeps.object_tails keeps.numbered.objects e o p at_o in_o.bare in_o.next small_at shows_o);
        thread_tails = rw (threads, shown) (tails-next (λ d. d.thread) (λ d. d.place) a.threads.items a.shown.items keeps.thread_tails keeps.numbered.threads e l m at_l in_l.next small_place shows_l);
        object_tails = rw (objects, shown) (tails-next (λ d. d.object) (λ d. d.at) a.objects.items a.shown.items keeps.object_tails keeps.numbered.objects e o p at_o in_o.next small_at shows_o);
        numbered = subst IsNumbered (sym shown) (record {
          threads = numbered-next (λ d. d.thread) (λ d. d.place) a.threads.items a.shown.items keeps.thread_tails keeps.numbered.threads e l m at_l in_l.next small_place shows_l;
          objects = numbered-next (λ d. d.object) (λ d. d.at) a.objects.items a.shown.items keeps.object_tails keeps.numbered.objects e o p at_o in_o.next small_at shows_o;
        });
        rise = λ x y in_x in_y direct. rises x y (had x in_x) (had y in_y) direct;
        count = held ∙ keeps.count ∙ ap (λ ss. length (occupants ss)) (sym slot_items);
        room = (let counted = keeps.room in omega (arith, held, counted, room, longer));
      }

  -- an event that is held is in other lines
  apart : (x : Entry) → Contains (occupants a.slots.items) x → (x.thread ≢ e.thread) × (x.object ≢ e.object)
  apart x h =
      let keeps = all.keeps in
      let slot = slot_of a.slots.items x h in (
        elsewhere (λ d. d.thread) (λ d. d.place) a.threads.items a.shown.items a.slots.items keeps.threads keeps.thread_tails keeps.numbered.threads e l m at_l in_l.bare in_l.next small_place shows_l slot.0 x slot.1,
        elsewhere (λ d. d.object) (λ d. d.at) a.objects.items a.shown.items a.slots.items keeps.objects keeps.object_tails keeps.numbered.objects e o p at_o in_o.bare in_o.next small_at shows_o slot.0 x slot.1,
      )

  -- so no other event becomes ready
  was_ready : (x : Entry) → IsReady (view_of b) x → IsReady (view_of a) x
  was_ready x is =
      let held : Contains (occupants a.slots.items) x = subst (λ ss. Contains (occupants ss) x) slot_items is.held in
      let other = apart x held in
      record {
        held = held;
        after = predecessors_in (a.shown.items ++ e ∷ []) a.shown.items x
            (λ y in_both direct. ⊎_elim
            (λ (before : Contains a.shown.items y). before)
            (λ (new : e ≡ y). absurd (⊎_elim
            (λ (thread : (y.thread ≡ x.thread) × (suc y.place ≡ x.place)). other.0 (sym thread.0 ∙ ap (λ (d : Entry). d.thread) (sym new)))
            (λ (object : (y.object ≡ x.object) × (suc y.at ≡ x.at)). other.1 (sym object.0 ∙ ap (λ (d : Entry). d.object) (sym new)))
            (direct_cases y x direct)))
            (Contains-push_cases a.shown.items e y in_both))
            (subst (λ es. has_predecessors es x ≡ true) shown is.after);
      }

  still_ready : (x : Entry) → IsReady (view_of a) x → IsReady (view_of b) x
  still_ready x is = record {
    held = subst (λ ss. Contains (occupants ss) x) (sym slot_items) is.held;
    after = subst (λ es. has_predecessors es x ≡ true) (sym shown) (predecessors_in a.shown.items (a.shown.items ++ e ∷ []) x (λ y h direct. Contains-append_left a.shown.items (e ∷ []) y h) is.after);
  }

  same_count : length b.threads.items ≡ length a.threads.items
  same_count = ap length threads ∙ length-set a.threads.items e.thread m

  lists-follows : ListsAllReady b
  lists-follows =
      let lists = all.lists in
      record {
        covers = λ x is _. subst (λ r. is_listed r.items x.thread ≡ true) (sym ready) (lists.covers x (was_ready x is) refl);
        known = λ t h. let old = lists.known t (subst (λ r. is_listed r.items t ≡ true) ready h) in omega (arith, old, same_count);
        once = subst (λ r. IsDistinct eqb r.items) (sym ready) lists.once;
        room = let old = lists.room in let capacity = ap vec_capacity ready in omega (arith, old, capacity, same_count);
      }

  only-follows : ListsOnlyReady b (λ _. false)
  only-follows = λ t h _.
      let old = all.only t (subst (λ r. is_listed r.items t ≡ true) ready h) refl in
      record { entry = old.entry; ready = still_ready old.entry old.ready; thread = old.thread }

  pub all-follows : b.held ≡ a.held → suc (length a.shown.items + a.held) ≤ vec_capacity b.shown → KeepsAll b
  all-follows held room = record { keeps = keeps-follows held room; lists = lists-follows; only = only-follows }

-- more room makes no difference
pub keeps-roomier : (a b : Arrivals) → KeepsAll a → b.threads ≡ a.threads → b.objects ≡ a.objects → b.slots ≡ a.slots → b.held ≡ a.held → b.ready ≡ a.ready → b.shown.items ≡ a.shown.items → vec_capacity a.shown ≤ vec_capacity b.shown → KeepsAll b
keeps-roomier a b all threads objects slots held ready shown capacity = record {
  keeps = keeps-moved a b all.keeps (subst (λ ls. 0 < length ls.items) (sym threads) all.keeps.main)
      (subst (λ ls. IsIndexed (λ e. e.thread) (λ e. e.place) ls.items a.slots.items) (sym threads) all.keeps.threads)
      (subst (λ ls. IsIndexed (λ e. e.object) (λ e. e.at) ls.items a.slots.items) (sym objects) all.keeps.objects)
      (subst (λ ls. AreTails (λ e. e.thread) (λ e. e.place) ls.items a.shown.items) (sym threads) all.keeps.thread_tails)
      (subst (λ ls. AreTails (λ e. e.object) (λ e. e.at) ls.items a.shown.items) (sym objects) all.keeps.object_tails)
      shown (ap (λ ss. ss.items) slots) held capacity;
  lists = record {
    covers = λ e is skips. subst (λ r. is_listed r.items e.thread ≡ true) (sym ready) (all.lists.covers e (record { held = subst (λ ss. Contains (occupants ss.items) e) slots is.held; after = subst (λ es. has_predecessors es e ≡ true) shown is.after }) skips);
    known = λ t h. subst (λ ls. t < length ls.items) (sym threads) (all.lists.known t (subst (λ r. is_listed r.items t ≡ true) ready h));
    once = subst (λ r. IsDistinct eqb r.items) (sym ready) all.lists.once;
    room = (let old = all.lists.room in let more = ap vec_capacity ready in let count = ap (λ ls. length ls.items) threads in omega (arith, old, more, count));
  };
  only = λ t h skips.
      let old = all.only t (subst (λ r. is_listed r.items t ≡ true) ready h) skips in
      record {
        entry = old.entry;
        ready = record { held = subst (λ ss. Contains (occupants ss.items) old.entry) (sym slots) old.ready.held; after = subst (λ es. has_predecessors es old.entry ≡ true) (sym shown) old.ready.after };
        thread = old.thread;
      };
}
