-- What stored arrivals keep as the last of the shown events are sorted, where none is ready.
use Rattle.std.proofs.Common.{◌≡◌, ℕ, ◌<◌, Bool, true, false, ◌==◌, ◌&&◌, nat_lt, nat_le, eqb, ⊎_elim, List, ◌++◌, Option, Some, None, is_some, length, take, drop, Contains, refl, sym, ap, ◌∙◌, subst, arith}
use Rattle.std.specs.List.{IsDistinct}
use Rattle.std.specs.List.Sorted.{IsPermutation}
use Rattle.std.specs.Vec.{vec_capacity}
use Rattle.std.proofs.lemmas.Bool.{eqb-true, and_parts}
use Rattle.std.proofs.lemmas.Bool.Decides.{nat_tests}
use Rattle.std.proofs.lemmas.List.{take-append-drop}
use Rattle.std.proofs.lemmas.List.Elements.{Contains-append_left, Contains-append_right, Contains-append_cases}
use Rattle.std.proofs.lemmas.List.Sorted.{IsPermutation-sym, IsPermutation-append_right, Contains-permutation, length_permutation}
use Rattle.tm_base.specs.declared.events.Entry.{Entry}
use Rattle.tm_base.specs.Orders.{StampsRise}
use Rattle.tm_merge.specs.declared.arrivals.Arrivals.{Arrivals}
use Rattle.tm_merge.specs.declared.lines.Line.{Line}
use Rattle.tm_merge.specs.MergerViews.{MergerView, arrived}
use Rattle.tm_merge.specs.Numbering.{IsNumberedBy, IsNumbered}
use Rattle.tm_merge.specs.Places.{has_predecessors}
use Rattle.tm_merge.specs.ReadyThreads.{is_listed, KeepsAll}
use Rattle.tm_merge.specs.Rising.{IsSortedFrom, Sorts}
use Rattle.tm_merge.specs.Showing.{IsReady, IsSettled}
use Rattle.tm_merge.specs.StoredArrivals.{found, occupants, view_of, AreTails, KeepsArrivals}
use Rattle.tm_merge.proofs.NumberingLemmas.{count_in, Owns, exact_owns}
use Rattle.tm_merge.proofs.OrderLemmas.{find-element, prefix_numbered}
use Rattle.tm_merge.proofs.PredecessorsLemmas.{predecessors_in}
use Rattle.tm_merge.proofs.SortedLemmas.{IsWhole, numbered_whole, whole-permutation, sorted_numbered}

same_options : {A : Type 0} (o p : Option A) → ((x : A) → o ≡ Some x → p ≡ Some x) → ((x : A) → p ≡ Some x → o ≡ Some x) → o ≡ p
same_options None None there back = refl
same_options None (Some y) there back = back y refl
same_options (Some x) p there back = sym (there x refl)

-- numbered lists of the same events have the same tails
module _ (line number : Entry → ℕ) where
  found_in : (es fs : List Entry) → ((x : Entry) → Contains es x → Contains fs x) → Owns line number fs → (k n : ℕ) (x : Entry) → found line number es k n ≡ Some x → found line number fs k n ≡ Some x
  found_in es fs kept owns k n x is =
      let element = find-element (λ e. line e == k && number e == n) es x is in
      let both = and_parts (line x == k) (number x == n) element.1 in
      subst (λ j. found line number fs j n ≡ Some x) (eqb-true (line x) k both.0) (subst (λ j. found line number fs (line x) j ≡ Some x) (eqb-true (number x) n both.1) (owns x (kept x element.0)))

  module _ (es fs : List Entry) (same : IsPermutation es fs) (numbered_es : IsNumberedBy line number es) (numbered_fs : IsNumberedBy line number fs) where
    found_same : (k n : ℕ) → found line number es k n ≡ found line number fs k n
    found_same k n = same_options (found line number es k n) (found line number fs k n)
        (found_in es fs (λ x h. Contains-permutation es fs x same h) (exact_owns line number fs numbered_fs).1 k n)
        (found_in fs es (λ x h. Contains-permutation fs es x (IsPermutation-sym es fs same) h) (exact_owns line number es numbered_es).1 k n)

    count_same : (k : ℕ) → count_in line number es k ≡ count_in line number fs k
    count_same k =
        let c = count_in line number es k in
        let d = count_in line number fs k in
        let at_c = sym ((exact_owns line number es numbered_es).0 k c) ∙ ap is_some (found_same k c) ∙ (exact_owns line number fs numbered_fs).0 k c in
        let at_d = sym ((exact_owns line number es numbered_es).0 k d) ∙ ap is_some (found_same k d) ∙ (exact_owns line number fs numbered_fs).0 k d in
        counts_same c d at_c at_d
      where
        counts_same : (c d : ℕ) → (nat_lt 0 c && nat_le c c) ≡ (nat_lt 0 c && nat_le c d) → (nat_lt 0 d && nat_le d c) ≡ (nat_lt 0 d && nat_le d d) → c ≡ d
        counts_same c d h g = grind (arith, nat_tests)

    pub tails_same : (lines : List Line) → AreTails line number lines es → AreTails line number lines fs
    tails_same lines tails k l at =
        let old = tails k l at in
        record { count = old.count ∙ count_same k; last = old.last ∙ found_same k l.shown; fits = old.fits }

-- lists of which the last events are sorted have the same events
pub sorted_same : (n : ℕ) (es fs : List Entry) → IsSortedFrom n es fs → IsPermutation es fs
sorted_same n es fs sorted =
    let rest : IsPermutation (take n es ++ drop n es) (take n es ++ drop n fs) = IsPermutation-append_right (take n es) (drop n es) (drop n fs) sorted.rest.same in
    let from_whole : IsPermutation es (take n es ++ drop n fs) = subst (λ ds. IsPermutation ds (take n es ++ drop n fs)) (take-append-drop n es) rest in
    let to_same : IsPermutation es (take n fs ++ drop n fs) = subst (λ ds. IsPermutation es (ds ++ drop n fs)) (sym sorted.first) from_whole in
    subst (IsPermutation es) (take-append-drop n fs) to_same

-- another order makes none ready
settled_same : (v w : MergerView) → IsPermutation v.shown w.shown → w.held ≡ v.held → IsSettled v → IsSettled w
settled_same v w same held settled e h = none (has_predecessors w.shown e) refl
  where
    none : (t : Bool) → has_predecessors w.shown e ≡ t → t ≡ false
    none false is = refl
    none true is =
        let was = predecessors_in w.shown v.shown e (λ y in_w _. Contains-permutation w.shown v.shown y (IsPermutation-sym v.shown w.shown same) in_w) is in
        let never = settled e (subst (λ es. Contains es e) held h) in
        absurd cc

pub settled-sorts : (n : ℕ) (v w : MergerView) → IsSettled v → Sorts n v w → IsSettled w
settled-sorts n v w settled sorts = settled_same v w (sorted_same n v.shown w.shown sorts.shown) sorts.held settled

module _ (a b : Arrivals) (n : ℕ) (all : KeepsAll a) (settled : IsSettled (view_of a)) (sorted : IsSortedFrom n a.shown.items b.shown.items)
    (threads : b.threads ≡ a.threads) (objects : b.objects ≡ a.objects) (slots : b.slots ≡ a.slots) (held : b.held ≡ a.held) (ready : b.ready ≡ a.ready) (capacity : vec_capacity b.shown ≡ vec_capacity a.shown) where
  same_shown : IsPermutation a.shown.items b.shown.items
  same_shown = sorted_same n a.shown.items b.shown.items sorted

  back : (x : Entry) → Contains b.shown.items x → Contains a.shown.items x
  back x h = Contains-permutation b.shown.items a.shown.items x (IsPermutation-sym a.shown.items b.shown.items same_shown) h

  slot_items : b.slots.items ≡ a.slots.items
  slot_items = ap (λ ss. ss.items) slots

  rise_shown : StampsRise a.shown.items
  rise_shown x y in_x in_y direct = all.keeps.rise x y (Contains-append_left a.shown.items (occupants a.slots.items) x in_x) (Contains-append_left a.shown.items (occupants a.slots.items) y in_y) direct

  whole : IsWhole b.shown.items
  whole = whole-permutation a.shown.items b.shown.items same_shown (numbered_whole a.shown.items all.keeps.numbered rise_shown)

  numbered : IsNumbered b.shown.items
  numbered =
      let parts = sym (take-append-drop n a.shown.items) in
      let first : IsNumbered (take n a.shown.items) = record {
        threads = prefix_numbered (λ e. e.thread) (λ e. e.place) a.shown.items (take n a.shown.items) (drop n a.shown.items) all.keeps.numbered.threads parts;
        objects = prefix_numbered (λ e. e.object) (λ e. e.at) a.shown.items (take n a.shown.items) (drop n a.shown.items) all.keeps.numbered.objects parts;
      } in
      sorted_numbered b.shown.items whole (take n b.shown.items) (drop n b.shown.items) (sym (take-append-drop n b.shown.items)) (subst IsNumbered (sym sorted.first) first) sorted.rest.rising

  had : (x : Entry) → Contains (arrived (view_of b)) x → Contains (arrived (view_of a)) x
  had x h = ⊎_elim
      (λ (in_shown : Contains b.shown.items x). Contains-append_left a.shown.items (occupants a.slots.items) x (back x in_shown))
      (λ (in_held : Contains (occupants b.slots.items) x). Contains-append_right a.shown.items (occupants a.slots.items) x (subst (λ ss. Contains (occupants ss) x) slot_items in_held))
      (Contains-append_cases b.shown.items (occupants b.slots.items) x h)

  keeps : KeepsArrivals b
  keeps =
      let old = all.keeps in
      let long = length_permutation a.shown.items b.shown.items same_shown in
      record {
        main = subst (λ ts. 0 < length ts.items) (sym threads) old.main;
        threads = rw (threads, slots) old.threads;
        objects = rw (objects, slots) old.objects;
        thread_tails = subst (λ ts. AreTails (λ e. e.thread) (λ e. e.place) ts.items b.shown.items) (sym threads) (tails_same (λ e. e.thread) (λ e. e.place) a.shown.items b.shown.items same_shown old.numbered.threads numbered.threads a.threads.items old.thread_tails);
        object_tails = subst (λ os. AreTails (λ e. e.object) (λ e. e.at) os.items b.shown.items) (sym objects) (tails_same (λ e. e.object) (λ e. e.at) a.shown.items b.shown.items same_shown old.numbered.objects numbered.objects a.objects.items old.object_tails);
        numbered = numbered;
        rise = λ x y in_x in_y direct. old.rise x y (had x in_x) (had y in_y) direct;
        count = held ∙ old.count ∙ ap (λ ss. length (occupants ss)) (sym slot_items);
        room = (let room = old.room in omega (arith, room, long, held, capacity));
      }

  still_settled : IsSettled (view_of b)
  still_settled = settled_same (view_of a) (view_of b) same_shown (ap (λ ss. occupants ss.items) slots) settled

  nothing_ready : (e : Entry) → IsReady (view_of b) e → ⊥
  nothing_ready e is = let never = still_settled e is.held in let now = is.after in cc

  none_listed : (t : ℕ) → is_listed b.ready.items t ≡ true → ⊥
  none_listed t h =
      let was = all.only t (subst (λ r. is_listed r.items t ≡ true) ready h) refl in
      let never = settled was.entry was.ready.held in
      let now = was.ready.after in
      cc

  pub keeps-ordered : KeepsAll b
  keeps-ordered =
      let lists = all.lists in
      record {
        keeps = keeps;
        lists = record {
          covers = λ e is _. absurd (nothing_ready e is);
          known = λ t h. absurd (none_listed t h);
          once = subst (λ r. IsDistinct eqb r.items) (sym ready) lists.once;
          room = (let old = lists.room in let room_same = ap vec_capacity ready in let count_same = ap (λ ts. length ts.items) threads in omega (arith, old, room_same, count_same));
        };
        only = λ t h _. absurd (none_listed t h);
      }
