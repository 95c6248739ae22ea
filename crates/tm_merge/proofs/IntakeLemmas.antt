-- What an intake keeps: arrivals, of which the first ones are shown.
use Rattle.std.proofs.Common.{◌≡◌, ℕ, ◌-◌, ◌≤◌, List, [], ◌∷◌, ◌++◌, Option, Result, Ok, Err, length, length-append, length-drop, length-take, take, drop, Contains, refl, sym, ap, ◌∙◌, subst, arith}
use Rattle.std.specs.Prelude.{OnOk}
use Rattle.std.specs.List.Sorted.{IsPermutation}
use Rattle.std.proofs.lemmas.List.{append_assoc, append-nil, take-append-drop, take-append-le, drop-append-le}
use Rattle.std.proofs.lemmas.List.Elements.{Contains-append_left, Contains-append_right}
use Rattle.std.proofs.lemmas.List.Sorted.{IsPermutation-refl, IsPermutation-sym, IsPermutation-trans, IsPermutation-middle, IsPermutation-append_left, IsPermutation-append_right, length_permutation}
use Rattle.tm_base.specs.declared.events.Entry.{Entry}
use Rattle.tm_base.specs.Runs.{Leads}
use Rattle.tm_base.specs.Orders.{StampsRise}
use Rattle.tm_merge.specs.declared.arrivals.Arrivals.{Arrivals}
use Rattle.tm_merge.specs.declared.refusals.Refused.{Refused}
use Rattle.tm_merge.specs.Following.{Appends}
use Rattle.tm_merge.specs.Intakes.{partly_shown}
use Rattle.tm_merge.specs.MergerViews.{MergerView, arrived}
use Rattle.tm_merge.specs.Numbering.{HaveOwnPlaces, IsNumbered, PrefixesAreClosed}
use Rattle.tm_merge.specs.ReadyThreads.{KeepsAll}
use Rattle.tm_merge.specs.Refusals.{refusal}
use Rattle.tm_merge.specs.Rising.{Sorts}
use Rattle.tm_merge.specs.Showing.{IsSettled, Joins, Shows, Settles}
use Rattle.tm_merge.specs.StoredArrivals.{occupants, view_of}
use Rattle.tm_merge.proofs.OrderLemmas.{arrived_own, numbered_closed, numbered_in_order, prefix_numbered}
use Rattle.tm_merge.proofs.PredecessorsLemmas.{predecessors_in}
use Rattle.tm_merge.proofs.SortedLemmas.{IsWhole, numbered_whole, shows-all}

-- as much arrived, whatever of it is shown
pub arrived_same : (a : Arrivals) (n : ℕ) → arrived (partly_shown a n) ≡ arrived (view_of a)
arrived_same a n = sym (append_assoc (take n a.shown.items) (drop n a.shown.items) (occupants a.slots.items)) ∙ ap (λ es. es ++ occupants a.slots.items) (take-append-drop n a.shown.items)

-- and as much is refused
pub refusal_same : (a : Arrivals) (n : ℕ) (e : Entry) → refusal (partly_shown a n) e ≡ refusal (view_of a) e
refusal_same a n e =
    let judge : List Entry → Option Refused = λ es. refusal (record { threads = length a.threads.items - 1; objects = length a.objects.items; shown = []; held = es }) e in
    ap judge (arrived_same a n)

module _ (a b : Arrivals) (n : ℕ) (e : Entry) (within : n ≤ length a.shown.items) where
  -- an event that follows is held
  pub joins-follows : Appends (view_of a) e (view_of b) → Joins (partly_shown a n) e (partly_shown b n)
  joins-follows appends = record {
    same_threads = appends.same_threads;
    same_objects = appends.same_objects;
    shown = ap (take n) appends.shown ∙ take-append-le n a.shown.items (e ∷ []) within;
    held = subst (IsPermutation (e ∷ (drop n a.shown.items ++ occupants a.slots.items))) (sym now)
        (IsPermutation-sym (drop n a.shown.items ++ e ∷ occupants a.slots.items) (e ∷ (drop n a.shown.items ++ occupants a.slots.items)) (IsPermutation-middle (drop n a.shown.items) e (occupants a.slots.items)));
  }
    where
      now : drop n b.shown.items ++ occupants b.slots.items ≡ drop n a.shown.items ++ e ∷ occupants a.slots.items
      now =
          ap (λ es. drop n es ++ occupants b.slots.items) appends.shown
          ∙ ap (λ es. es ++ occupants b.slots.items) (drop-append-le n a.shown.items (e ∷ []) within)
          ∙ append_assoc (drop n a.shown.items) (e ∷ []) (occupants b.slots.items)
          ∙ ap (λ es. drop n a.shown.items ++ e ∷ es) appends.held

  -- and so is one that goes into a slot
  pub joins-held : Joins (view_of a) e (view_of b) → Joins (partly_shown a n) e (partly_shown b n)
  joins-held joins = record {
    same_threads = joins.same_threads;
    same_objects = joins.same_objects;
    shown = ap (take n) joins.shown;
    held = subst (λ es. IsPermutation (e ∷ (drop n a.shown.items ++ occupants a.slots.items)) (drop n es ++ occupants b.slots.items)) (sym joins.shown)
        (IsPermutation-trans (e ∷ (drop n a.shown.items ++ occupants a.slots.items)) (drop n a.shown.items ++ e ∷ occupants a.slots.items) (drop n a.shown.items ++ occupants b.slots.items)
        (IsPermutation-sym (drop n a.shown.items ++ e ∷ occupants a.slots.items) (e ∷ (drop n a.shown.items ++ occupants a.slots.items)) (IsPermutation-middle (drop n a.shown.items) e (occupants a.slots.items)))
        (IsPermutation-append_right (drop n a.shown.items) (e ∷ occupants a.slots.items) (occupants b.slots.items) joins.held));
  }

-- what changes as events are shown
pub record Moved (v : MergerView) (news : List Entry) (w : MergerView) : Type 0 where
  pub same_threads : w.threads ≡ v.threads
  pub same_objects : w.objects ≡ v.objects
  pub shown : w.shown ≡ v.shown ++ news
  pub held : IsPermutation v.held (news ++ w.held)
  pub none : news ≡ [] → w.held ≡ v.held

moved : (news : List Entry) (v w : MergerView) → Leads Shows v news w → Moved v news w
moved [] v w steps = record {
  same_threads = ap (λ (u : MergerView). u.threads) steps;
  same_objects = ap (λ (u : MergerView). u.objects) steps;
  shown = ap (λ (u : MergerView). u.shown) steps ∙ sym (append-nil v.shown);
  held = subst (λ (u : MergerView). IsPermutation v.held u.held) (sym steps) (IsPermutation-refl v.held);
  none = λ _. ap (λ (u : MergerView). u.held) steps;
}
moved (e ∷ news) v w steps =
    let one = steps.1 in
    let rest = moved news steps.0 w steps.2 in
    record {
      same_threads = rest.same_threads ∙ one.same_threads;
      same_objects = rest.same_objects ∙ one.same_objects;
      shown = rest.shown ∙ ap (λ es. es ++ news) one.shown ∙ append_assoc v.shown (e ∷ []) news;
      held = IsPermutation-trans v.held (e ∷ (steps.0).held) (e ∷ (news ++ w.held)) one.held (IsPermutation-append_right (e ∷ []) (steps.0).held (news ++ w.held) rest.held);
      none = λ h. absurd cc;
    }

nil_parts : (xs ys : List Entry) → xs ++ ys ≡ [] → (xs ≡ []) × (ys ≡ [])
nil_parts [] ys h = (refl, h)
nil_parts (x ∷ xs) ys h = absurd cc

nil_of : (xs : List Entry) → length xs ≡ 0 → xs ≡ []
nil_of [] h = refl
nil_of (x ∷ xs) h = absurd (omega (arith, h))

-- none of the shown events is lost, as more are shown and as the last of them are sorted
pub within_settled : (a b : Arrivals) (n count : ℕ) → n ≤ length a.shown.items → Settles (view_of a) count (view_of b) → n ≤ length b.shown.items
within_settled a b n count within settles =
    let way = moved settles.news (view_of a) (view_of b) settles.steps in
    let long = ap length way.shown ∙ length-append a.shown.items settles.news in
    omega (arith, within, long)

pub within_sorted : (b c : Arrivals) (n : ℕ) → n ≤ length b.shown.items → Sorts n (view_of b) (view_of c) → n ≤ length c.shown.items
within_sorted b c n within sorts =
    let same = ap length sorts.shown.first in
    let before = length-take n b.shown.items in
    let after = length-take n c.shown.items in
    omega (arith, within, same, before, after)

-- What follows is shown with what the lines show, all of it in order: first the lines show their part, then the
-- events that aren't shown yet are sorted.
module _ (a b c : Arrivals) (n count : ℕ) (within : n ≤ length a.shown.items) (settles : Settles (view_of a) count (view_of b)) (all : KeepsAll c) (sorts : Sorts n (view_of b) (view_of c)) (still : IsSettled (view_of c)) where
  way : Moved (view_of a) settles.news (view_of b)
  way = moved settles.news (view_of a) (view_of b) settles.steps

  news : List Entry
  news = drop n c.shown.items

  first : take n c.shown.items ≡ take n a.shown.items
  first = sorts.shown.first ∙ ap (take n) way.shown ∙ take-append-le n a.shown.items settles.news within

  rest : drop n b.shown.items ≡ drop n a.shown.items ++ settles.news
  rest = ap (drop n) way.shown ∙ drop-append-le n a.shown.items settles.news within

  held : IsPermutation (drop n a.shown.items ++ occupants a.slots.items) (drop n c.shown.items ++ occupants c.slots.items)
  held =
      let by_lines : IsPermutation (drop n a.shown.items ++ occupants a.slots.items) (drop n a.shown.items ++ (settles.news ++ occupants b.slots.items)) = IsPermutation-append_right (drop n a.shown.items) (occupants a.slots.items) (settles.news ++ occupants b.slots.items) way.held in
      let same : drop n a.shown.items ++ (settles.news ++ occupants b.slots.items) ≡ drop n b.shown.items ++ occupants b.slots.items =
      sym (append_assoc (drop n a.shown.items) settles.news (occupants b.slots.items)) ∙ ap (λ es. es ++ occupants b.slots.items) (sym rest) in
      let sorted : IsPermutation (drop n b.shown.items ++ occupants b.slots.items) (drop n c.shown.items ++ occupants b.slots.items) = IsPermutation-append_left (occupants b.slots.items) (drop n b.shown.items) (drop n c.shown.items) sorts.shown.rest.same in
      let whole : IsPermutation (drop n a.shown.items ++ occupants a.slots.items) (drop n c.shown.items ++ occupants b.slots.items) =
      IsPermutation-trans (drop n a.shown.items ++ occupants a.slots.items) (drop n b.shown.items ++ occupants b.slots.items) (drop n c.shown.items ++ occupants b.slots.items) (subst (IsPermutation (drop n a.shown.items ++ occupants a.slots.items)) same by_lines) sorted in
      subst (λ es. IsPermutation (drop n a.shown.items ++ occupants a.slots.items) (drop n c.shown.items ++ es)) (sym sorts.held) whole

  none : drop n c.shown.items ≡ [] → drop n a.shown.items ++ occupants a.slots.items ≡ occupants c.slots.items
  none nothing =
      let long = length_permutation (drop n b.shown.items) (drop n c.shown.items) sorts.shown.rest.same in
      let short = ap length nothing in
      let empty : length (drop n b.shown.items) ≡ 0 = omega (arith, long, short) in
      let parts = nil_parts (drop n a.shown.items) settles.news (sym rest ∙ nil_of (drop n b.shown.items) empty) in
      ap (λ es. es ++ occupants a.slots.items) parts.0 ∙ sym (way.none parts.1) ∙ sym sorts.held

  rise_shown : StampsRise c.shown.items
  rise_shown x y in_x in_y direct = all.keeps.rise x y (Contains-append_left c.shown.items (occupants c.slots.items) x in_x) (Contains-append_left c.shown.items (occupants c.slots.items) y in_y) direct

  whole : IsWhole c.shown.items
  whole = numbered_whole c.shown.items all.keeps.numbered rise_shown

  parts : c.shown.items ≡ take n a.shown.items ++ drop n c.shown.items
  parts = sym (take-append-drop n c.shown.items) ∙ ap (λ es. es ++ drop n c.shown.items) first

  threads_same : length c.threads.items - 1 ≡ length a.threads.items - 1
  threads_same = sorts.same_threads ∙ way.same_threads

  objects_same : length c.objects.items ≡ length a.objects.items
  objects_same = sorts.same_objects ∙ way.same_objects

  -- all that the lines count as shown is shown
  all_shown : (k : ℕ) → k ≡ length c.shown.items → partly_shown c k ≡ record { threads = length a.threads.items - 1; objects = length a.objects.items; shown = c.shown.items; held = occupants c.slots.items }
  all_shown k is =
      let shown : take k c.shown.items ≡ c.shown.items = ap (λ j. take j c.shown.items) is ∙ take_whole c.shown.items in
      let left : drop k c.shown.items ≡ [] = ap (λ j. drop j c.shown.items) is ∙ drop_whole c.shown.items in
      rw (threads_same, objects_same, shown, left) refl
    where
      take_whole : (xs : List Entry) → take (length xs) xs ≡ xs
      take_whole [] = refl
      take_whole (x ∷ xs) = ap (λ l. x ∷ l) (take_whole xs)

      drop_whole : (xs : List Entry) → drop (length xs) xs ≡ []
      drop_whole [] = refl
      drop_whole (x ∷ xs) = drop_whole xs

  pub settles-all : (k shows : ℕ) → k ≡ length c.shown.items → shows ≡ k - n → Settles (partly_shown a n) shows (partly_shown c k)
  settles-all k shows is counted = record {
    news = drop n c.shown.items;
    steps = subst (λ w. Leads Shows (partly_shown a n) (drop n c.shown.items) w) (sym (all_shown k is))
        (shows-all c.shown.items whole (length a.threads.items - 1) (length a.objects.items) (occupants c.slots.items) still (drop n c.shown.items) (take n a.shown.items) (drop n a.shown.items ++ occupants a.slots.items) parts sorts.shown.rest.rising held none);
    count = (let long = length-drop n c.shown.items in omega (arith, is, counted, long));
    settled = subst IsSettled (sym (all_shown k is)) still;
  }

-- where no event is ready, none follows
module _ (a : Arrivals) (n : ℕ) (all : KeepsAll a) (settled : IsSettled (partly_shown a n)) where
  rise_here : StampsRise a.shown.items
  rise_here x y in_x in_y direct = all.keeps.rise x y (Contains-append_left a.shown.items (occupants a.slots.items) x in_x) (Contains-append_left a.shown.items (occupants a.slots.items) y in_y) direct

  nothing_follows : (es : List Entry) → drop n a.shown.items ≡ es → es ≡ []
  nothing_follows [] is = refl
  nothing_follows (q ∷ es) is =
      let parts : a.shown.items ≡ take n a.shown.items ++ q ∷ es = sym (take-append-drop n a.shown.items) ∙ ap (λ l. take n a.shown.items ++ l) is in
      let among : Contains a.shown.items q = subst (λ l. Contains l q) (sym parts) (Contains-append_right (take n a.shown.items) (q ∷ es) q (0, omega arith, refl)) in
      let after = predecessors_in a.shown.items (take n a.shown.items) q (λ y in_all direct. (numbered_in_order a.shown.items all.keeps.numbered).0 (take n a.shown.items) es y q parts in_all direct)
      ((numbered_whole a.shown.items all.keeps.numbered rise_here).after q among) in
      let held : Contains (drop n a.shown.items ++ occupants a.slots.items) q = subst (λ l. Contains (l ++ occupants a.slots.items) q) (sym is) (0, omega arith, refl) in
      let never = settled q held in
      absurd cc

  pub all_shown_where_settled : partly_shown a n ≡ view_of a
  all_shown_where_settled =
      let left = nothing_follows (drop n a.shown.items) refl in
      let shown : take n a.shown.items ≡ a.shown.items = sym (append-nil (take n a.shown.items)) ∙ ap (λ l. take n a.shown.items ++ l) (sym left) ∙ take-append-drop n a.shown.items in
      rw (shown, left) refl

-- the shown events are numbered, and closed in all that arrived
module _ (a : Arrivals) (n : ℕ) (all : KeepsAll a) where
  pub shown_numbered : IsNumbered (take n a.shown.items)
  shown_numbered =
      let parts = sym (take-append-drop n a.shown.items) in
      record {
        threads = prefix_numbered (λ e. e.thread) (λ e. e.place) a.shown.items (take n a.shown.items) (drop n a.shown.items) all.keeps.numbered.threads parts;
        objects = prefix_numbered (λ e. e.object) (λ e. e.at) a.shown.items (take n a.shown.items) (drop n a.shown.items) all.keeps.numbered.objects parts;
      }

  pub shown_closed : PrefixesAreClosed (take n a.shown.items) (arrived (partly_shown a n))
  shown_closed =
      numbered_closed (take n a.shown.items) (arrived (partly_shown a n)) shown_numbered
      (λ e h. Contains-append_left (take n a.shown.items) (drop n a.shown.items ++ occupants a.slots.items) e h)
      (subst HaveOwnPlaces (sym (arrived_same a n)) (arrived_own a all.keeps))

-- what follows from what holds of one outcome
pub on_ok : {T E : Type 0} (r : Result T E) {P Q : Type 0} → (P → Q) → OnOk r P → OnOk r Q
on_ok (Ok x) step h = step h
on_ok (Err e) step h = tt
