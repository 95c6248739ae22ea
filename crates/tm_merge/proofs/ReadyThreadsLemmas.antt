-- That the threads of ready events are listed, from step to step.
use Rattle.std.proofs.Common.{◌≡◌, ◌≢◌, ℕ, ◌+◌, ◌-◌, ◌<◌, ◌≤◌, Bool, true, false, cond, not, ◌==◌, ◌&&◌, ◌||◌, eqb, inl, inr, ⊎_elim, [], ◌∷◌, ◌++◌, filter, Option, Some, None, is_some, slice_get, length, Contains, refl, sym, ap, ◌∙◌, subst, arith}
use Rattle.std.specs.Prelude.{MatchOption}
use Rattle.std.specs.List.{IsDistinct}
use Rattle.std.specs.Option.{option_or}
use Rattle.std.specs.Vec.{vec_capacity}
use Rattle.std.proofs.lemmas.Bool.{cases_Bool, cases_eq, cond-false, and_parts, and_from, and_left, or_cases, eq-eqb, ne_eqb, eqb-true}
use Rattle.std.proofs.lemmas.List.Sorted.{IsPermutation-sym, Contains-permutation}
use Rattle.tm_base.specs.declared.events.Entry.{Entry}
use Rattle.tm_base.specs.Orders.{IsNotLater}
use Rattle.tm_merge.specs.declared.arrivals.Arrivals.{Arrivals}
use Rattle.tm_merge.specs.declared.arrivals.showing.Candidate.{Candidate}
use Rattle.tm_merge.specs.Candidates.{IsReadyIn, NoneReadyIn, IsAmong, IsBestIn, IsBestBelow, IsNextIn}
use Rattle.tm_merge.specs.Places.{has_place, has_at, has_predecessors}
use Rattle.tm_merge.specs.ReadyThreads.{is_listed, with_thread, HasReady, ListsReady, ListsAllReady, ListsOnlyReady, KeepsAll}
use Rattle.tm_merge.specs.Showing.{IsReady, IsSettled, Joins, Shows}
use Rattle.tm_merge.specs.StoredArrivals.{found, occupants, KeepsArrivals, view_of}
use Rattle.tm_merge.proofs.ListLemmas.{Contains-first, Contains-rest}
use Rattle.tm_merge.proofs.ListingLemmas.{once-filter, once-with, listed-with, listed-without, listed_apart, listed_before, listed_room, among_all, among_more}
use Rattle.tm_merge.proofs.NumberingLemmas.{found-snoc}

-- an event that is sooner than one is sooner than all later ones
pub sooner_still : (a b c : Entry) → IsNotLater a b → IsNotLater b c → IsNotLater a c
sooner_still a b c first second = ⊎_elim
    (λ (less : a.stamp < b.stamp). ⊎_elim
    (λ (more : b.stamp < c.stamp). inl (omega (arith, less, more)))
    (λ (tie : (b.stamp ≡ c.stamp) × (b.thread ≤ c.thread)). inl (omega (arith, less, tie.0)))
    second)
    (λ (same : (a.stamp ≡ b.stamp) × (a.thread ≤ b.thread)). ⊎_elim
    (λ (more : b.stamp < c.stamp). inl (omega (arith, same.0, more)))
    (λ (tie : (b.stamp ≡ c.stamp) × (b.thread ≤ c.thread)). inr (omega (arith, same.0, tie.0), omega (arith, same.1, tie.1)))
    second)
    first

-- as many threads, as the views say
pub threads_same : (a b : Arrivals) → KeepsArrivals a → KeepsArrivals b → (view_of b).threads ≡ (view_of a).threads → length b.threads.items ≡ length a.threads.items
threads_same a b keeps_a keeps_b same = let m = keeps_a.main in let n = keeps_b.main in omega (arith, m, n, same)

-- nothing is ready yet
pub lists-new : (a : Arrivals) → a.slots.items ≡ [] → a.ready.items ≡ [] → length a.threads.items ≤ vec_capacity a.ready → ListsAllReady a
unfolding IsDistinct
lists-new a slots ready room = record {
  covers = λ e is_ready _. let held = subst (λ ss. Contains (occupants ss) e) slots is_ready.held in absurd (omega (arith, held.1));
  known = λ t h. let none = subst (λ ts. is_listed ts t ≡ true) ready h in absurd cc;
  once = subst (IsDistinct eqb) (sym ready) tt;
  room = room;
}

-- where a look finds one, an event of the thread is ready
found_ready : (a : Arrivals) (t : ℕ) (r : Option Candidate) → is_some r ≡ true → MatchOption r (NoneReadyIn a t) (λ c. IsReadyIn a t c) → HasReady (view_of a) t
found_ready a t None h none = absurd cc
found_ready a t (Some c) h own = record { entry = c.entry; ready = own.ready; thread = own.thread }

module _ (a b : Arrivals) (t : ℕ) (r : Option Candidate) (is : MatchOption r (NoneReadyIn a t) (λ c. IsReadyIn a t c)) (view : view_of b ≡ view_of a) where
  -- the thread is listed, since an event of it is ready
  pub only-with : (skips : ℕ → Bool) → is_some r ≡ true → b.ready.items ≡ with_thread a.ready.items t → ListsOnlyReady a skips → ListsOnlyReady b skips
  only-with skips some items only = λ x h apart. subst (λ v. HasReady v x) (sym view) (⊎_elim
      (λ (old : is_listed a.ready.items x ≡ true). only x old apart)
      (λ (own : (t == x) ≡ true). subst (HasReady (view_of a)) (eqb-true t x own) (found_ready a t r some is))
      (or_cases _ _ (sym (listed-with a.ready.items t x) ∙ subst (λ ts. is_listed ts x ≡ true) items h)))

  -- it is taken from the list, since none is ready
  pub only-without : b.ready.items ≡ filter (λ x. not (x == t)) a.ready.items → ListsOnlyReady a (λ x. x == t) → ListsOnlyReady b (λ _. false)
  only-without items only = λ x h _.
      let now = subst (λ ts. is_listed ts x ≡ true) items h in
      subst (λ v. HasReady v x) (sym view) (only x (listed_before (λ y. not (y == t)) a.ready.items x now) (listed_apart a.ready.items t x now))

  -- it stays in the list, since one is ready
  pub only-still : is_some r ≡ true → b.ready ≡ a.ready → ListsOnlyReady a (λ x. x == t) → ListsOnlyReady b (λ _. false)
  only-still some ready only = λ x h _.
      let old = subst (λ v. is_listed v.items x ≡ true) ready h in
      subst (λ v. HasReady v x) (sym view) (⊎_elim
      (λ (own : (x == t) ≡ true). subst (HasReady (view_of a)) (sym (eqb-true x t own)) (found_ready a t r some is))
      (λ (apart : (x == t) ≡ false). only x old apart)
      (cases_Bool (x == t)))

-- as an event arrives, each ready one stays ready
pub only-joins : (a b : Arrivals) (e : Entry) → ListsOnlyReady a (λ _. false) → Joins (view_of a) e (view_of b) → b.ready ≡ a.ready → ListsOnlyReady b (λ _. false)
only-joins a b e only joins ready = λ t h _.
    let old = only t (subst (λ v. is_listed v.items t ≡ true) ready h) refl in
    record {
      entry = old.entry;
      ready = record {
        held = Contains-permutation (e ∷ (view_of a).held) (view_of b).held old.entry joins.held (Contains-rest e (view_of a).held old.entry old.ready.held);
        after = subst (λ es. has_predecessors es old.entry ≡ true) (sym joins.shown) old.ready.after;
      };
      thread = old.thread;
    }

-- as one is shown, each ready one of another thread stays ready
pub only-shows : (a b : Arrivals) (e : Entry) → ListsOnlyReady a (λ _. false) → Shows (view_of a) e (view_of b) → b.ready ≡ a.ready → ListsOnlyReady b (λ t. t == e.thread)
only-shows a b e only shows ready = λ t h apart.
    let old = only t (subst (λ v. is_listed v.items t ≡ true) ready h) refl in
    let both = and_parts (has_place a.shown.items old.entry.thread (old.entry.place - 1)) (has_at a.shown.items old.entry.object (old.entry.at - 1)) old.ready.after in
    record {
      entry = old.entry;
      ready = record {
        held = ⊎_elim
            (λ (same : old.entry ≡ e). let own = eq-eqb t e.thread (sym old.thread ∙ ap (λ (d : Entry). d.thread) same) in absurd cc)
            (λ (other : Contains (view_of b).held old.entry). other)
            (Contains-first e (view_of b).held old.entry (Contains-permutation (view_of a).held (e ∷ (view_of b).held) old.entry shows.held old.ready.held));
        after = subst (λ es. has_predecessors es old.entry ≡ true) (sym shows.shown) (and_from (has_place (a.shown.items ++ e ∷ []) old.entry.thread (old.entry.place - 1)) (has_at (a.shown.items ++ e ∷ []) old.entry.object (old.entry.at - 1))
            (more (λ d. d.thread) (λ d. d.place) old.entry.thread (old.entry.place - 1) both.0)
            (more (λ d. d.object) (λ d. d.at) old.entry.object (old.entry.at - 1) both.1));
      };
      thread = old.thread;
    }
  where
    still : (first : Bool) (o p : Option Entry) → (first || is_some o) ≡ true → (first || is_some (option_or o p)) ≡ true
    still true o p h = refl
    still false None p h = absurd cc
    still false (Some x) p h = refl

    more : (line number : Entry → ℕ) (k n : ℕ) → (n == 0 || is_some (found line number a.shown.items k n)) ≡ true → (n == 0 || is_some (found line number (a.shown.items ++ e ∷ []) k n)) ≡ true
    more line number k n h = ap (λ o. n == 0 || is_some o) (found-snoc line number a.shown.items e k n) ∙ still (n == 0) (found line number a.shown.items k n) (cond (line e == k && number e == n) (Some e) None) h

module _ (a : Arrivals) where
  -- there is room for a thread that isn't listed
  pub room_for : (skips : Entry → Bool) (t : ℕ) → ListsReady a skips → t < length a.threads.items → is_listed a.ready.items t ≡ false → length a.ready.items < vec_capacity a.ready
  room_for skips t lists below new =
      let fewer = listed_room a.ready.items t (length a.threads.items) lists.once lists.known below new in
      let room = lists.room in
      omega (arith, fewer, room)

  -- the thread that was skipped is listed now
  pub lists-with : (b : Arrivals) (t : ℕ) → ListsReady a (λ e. e.thread == t) → t < length a.threads.items → view_of b ≡ view_of a → length b.threads.items ≡ length a.threads.items
      → b.ready.items ≡ with_thread a.ready.items t → vec_capacity b.ready ≡ vec_capacity a.ready → ListsAllReady b
  lists-with b t lists below view threads items capacity = record {
    covers = λ e ready _. now e.thread (⊎_elim
        (λ (own : (e.thread == t) ≡ true). let is : (t == e.thread) ≡ true = eq-eqb t e.thread (sym (eqb-true e.thread t own)) in grind arith)
        (λ (other : (e.thread == t) ≡ false). let old = lists.covers e (subst (λ v. IsReady v e) view ready) other in grind arith)
        (cases_Bool (e.thread == t)));
    known = λ x h. ⊎_elim
        (λ (same : t ≡ x). omega (arith, same, below, threads))
        (λ (apart : t ≢ x).
        let is : (t == x) ≡ false = ne_eqb t x apart in
        let both = sym (listed-with a.ready.items t x) ∙ subst (λ ts. is_listed ts x ≡ true) items h in
        let old = lists.known x (grind arith) in
        omega (arith, old, threads))
        (cases_eq t x);
    once = subst (IsDistinct eqb) (sym items) (once-with a.ready.items t lists.once);
    room = let old = lists.room in omega (arith, old, capacity, threads);
  }
    where
      now : (x : ℕ) → (is_listed a.ready.items x || (t == x)) ≡ true → is_listed b.ready.items x ≡ true
      now x h = subst (λ ts. is_listed ts x ≡ true) (sym items) (listed-with a.ready.items t x ∙ h)

  -- a thread with no ready event needn't be listed
  pub lists-without : (b : Arrivals) (t : ℕ) → ListsAllReady a → NoneReadyIn a t → view_of b ≡ view_of a → length b.threads.items ≡ length a.threads.items
      → b.ready.items ≡ filter (λ x. not (x == t)) a.ready.items → vec_capacity b.ready ≡ vec_capacity a.ready → ListsAllReady b
  lists-without b t lists none view threads items capacity = record {
    covers = λ e ready _.
        let was = subst (λ v. IsReady v e) view ready in
        subst (λ ts. is_listed ts e.thread ≡ true) (sym items) (listed-without a.ready.items t e.thread (lists.covers e was refl) (λ same. none e was (sym same)));
    known = λ x h. let old = lists.known x (listed_before (λ y. not (y == t)) a.ready.items x (subst (λ ts. is_listed ts x ≡ true) items h)) in omega (arith, old, threads);
    once = subst (IsDistinct eqb) (sym items) (once-filter (λ y. not (y == t)) a.ready.items lists.once);
    room = let old = lists.room in omega (arith, old, capacity, threads);
  }

  -- as an event arrives, its own thread alone may have a new ready event
  pub lists-joins : (b : Arrivals) (e : Entry) → ListsAllReady a → KeepsArrivals a → KeepsArrivals b → Joins (view_of a) e (view_of b) → b.ready ≡ a.ready → ListsReady b (λ x. x.thread == e.thread)
  lists-joins b e lists keeps_a keeps_b joins ready = record {
    covers = λ x is_ready apart. subst (λ r. is_listed r.items x.thread ≡ true) (sym ready) (⊎_elim
        (λ (new : x ≡ e). let same = eq-eqb x.thread e.thread (ap (λ (d : Entry). d.thread) new) in absurd cc)
        (λ (old : Contains (view_of a).held x). lists.covers x (record { held = old; after = subst (λ es. has_predecessors es x ≡ true) joins.shown is_ready.after }) refl)
        (Contains-first e (view_of a).held x (Contains-permutation (view_of b).held (e ∷ (view_of a).held) x (IsPermutation-sym (e ∷ (view_of a).held) (view_of b).held joins.held) is_ready.held)));
    known = λ t h. let old = lists.known t (subst (λ r. is_listed r.items t ≡ true) ready h) in omega (arith, old, threads);
    once = subst (λ r. IsDistinct eqb r.items) (sym ready) lists.once;
    room = let old = lists.room in let capacity = ap vec_capacity ready in omega (arith, old, capacity, threads);
  }
    where
      threads : length b.threads.items ≡ length a.threads.items
      threads = threads_same a b keeps_a keeps_b joins.same_threads

  -- as an event is shown, an event of its thread or at its object alone may become ready
  pub lists-shows : (b : Arrivals) (e : Entry) → ListsAllReady a → KeepsArrivals a → KeepsArrivals b → Shows (view_of a) e (view_of b) → b.ready ≡ a.ready → ListsReady b (λ x. x.object == e.object)
  lists-shows b e lists keeps_a keeps_b shows ready = record {
    covers = λ x is_ready apart. subst (λ r. is_listed r.items x.thread ≡ true) (sym ready) (⊎_elim
        (λ (own : e.thread ≡ x.thread). subst (λ t. is_listed a.ready.items t ≡ true) own (lists.covers e shows.next.ready refl))
        (λ (other : e.thread ≢ x.thread). lists.covers x (before x is_ready other apart) refl)
        (cases_eq e.thread x.thread));
    known = λ t h. let old = lists.known t (subst (λ r. is_listed r.items t ≡ true) ready h) in omega (arith, old, threads);
    once = subst (λ r. IsDistinct eqb r.items) (sym ready) lists.once;
    room = let old = lists.room in let capacity = ap vec_capacity ready in omega (arith, old, capacity, threads);
  }
    where
      threads : length b.threads.items ≡ length a.threads.items
      threads = threads_same a b keeps_a keeps_b shows.same_threads

      or_none : (o : Option Entry) → option_or o None ≡ o
      or_none None = refl
      or_none (Some x) = refl

      -- the event isn't in another line
      not_found : (line number : Entry → ℕ) (k n : ℕ) → line e ≢ k → found line number (a.shown.items ++ e ∷ []) k n ≡ found line number a.shown.items k n
      not_found line number k n apart =
          found-snoc line number a.shown.items e k n
          ∙ ap (option_or (found line number a.shown.items k n)) (cond-false (line e == k && number e == n) (Some e) None (and_left (line e == k) (number e == n) (ne_eqb (line e) k apart)))
          ∙ or_none (found line number a.shown.items k n)

      before : (x : Entry) → IsReady (view_of b) x → e.thread ≢ x.thread → (x.object == e.object) ≡ false → IsReady (view_of a) x
      before x is_ready other apart =
          let after : has_predecessors (a.shown.items ++ e ∷ []) x ≡ true = subst (λ es. has_predecessors es x ≡ true) shows.shown is_ready.after in
          let both = and_parts (has_place (a.shown.items ++ e ∷ []) x.thread (x.place - 1)) (has_at (a.shown.items ++ e ∷ []) x.object (x.at - 1)) after in
          let elsewhere : e.object ≢ x.object = λ same. let here = eq-eqb x.object e.object (sym same) in absurd cc in
          record {
            held = Contains-permutation (e ∷ (view_of b).held) (view_of a).held x (IsPermutation-sym (view_of a).held (e ∷ (view_of b).held) shows.held) (Contains-rest e (view_of b).held x is_ready.held);
            after = and_from (has_place a.shown.items x.thread (x.place - 1)) (has_at a.shown.items x.object (x.at - 1))
                (subst (λ o. (x.place - 1 == 0 || is_some o) ≡ true) (not_found (λ d. d.thread) (λ d. d.place) x.thread (x.place - 1) other) both.0)
                (subst (λ o. (x.at - 1 == 0 || is_some o) ≡ true) (not_found (λ d. d.object) (λ d. d.at) x.object (x.at - 1) elsewhere) both.1);
          }

  -- the best of the listed threads is next
  module _ (all : KeepsAll a) where
    listed_among : (n : ℕ) (e : Entry) → length a.ready.items ≤ n → IsReady (view_of a) e → IsAmong a.ready.items n e.thread
    listed_among n e whole ready = among_all a.ready.items n e.thread whole (all.lists.covers e ready refl)

    pub next_from : (n : ℕ) (best : Option Candidate) → length a.ready.items ≤ n → IsBestBelow a n best → MatchOption best (IsSettled (view_of a)) (λ c. IsNextIn a c)
    next_from n None whole none = λ e held. ⊎_elim
        (λ (after : has_predecessors a.shown.items e ≡ true).
        let ready : IsReady (view_of a) e = record { held = held; after = after } in
        absurd (none e ready (listed_among n e whole ready)))
        (λ (lacks : has_predecessors a.shown.items e ≡ false). lacks)
        (cases_Bool (has_predecessors a.shown.items e))
    next_from n (Some c) whole best = record {
      there = best.there;
      next = record { ready = best.ready; soonest = λ e ready. best.soonest e ready (listed_among n e whole ready) };
    }

  -- one more listed thread is looked at
  module _ (n t : ℕ) (here : slice_get a.ready.items n ≡ Some t) where
    pub better-none : (best : Option Candidate) → NoneReadyIn a t → IsBestBelow a n best → IsBestBelow a (n + 1) best
    better-none None free none = λ e ready among. ⊎_elim
        (λ (earlier : IsAmong a.ready.items n e.thread). none e ready earlier)
        (λ (own : e.thread ≡ t). free e ready own)
        (among_more a.ready.items n e.thread t here among)
    better-none (Some c) free best = record {
      there = best.there;
      ready = best.ready;
      soonest = λ e ready among. ⊎_elim
          (λ (earlier : IsAmong a.ready.items n e.thread). best.soonest e ready earlier)
          (λ (own : e.thread ≡ t). absurd (free e ready own))
          (among_more a.ready.items n e.thread t here among);
    }

    module _ (c : Candidate) (own : IsReadyIn a t c) where
      is_own : (e : Entry) → IsReady (view_of a) e → e.thread ≡ t → IsNotLater c.entry e
      is_own e ready same = subst (IsNotLater c.entry) (sym (own.only e ready same)) (inr (refl, omega arith))

      pub better-first : ((e : Entry) → IsReady (view_of a) e → IsAmong a.ready.items n e.thread → ⊥) → IsBestIn a (n + 1) c
      better-first none = record {
        there = own.there;
        ready = own.ready;
        soonest = λ e ready among. ⊎_elim
            (λ (earlier : IsAmong a.ready.items n e.thread). absurd (none e ready earlier))
            (λ (same : e.thread ≡ t). is_own e ready same)
            (among_more a.ready.items n e.thread t here among);
      }

      pub better-new : (d : Candidate) → IsBestIn a n d → IsNotLater c.entry d.entry → IsBestIn a (n + 1) c
      better-new d best sooner = record {
        there = own.there;
        ready = own.ready;
        soonest = λ e ready among. ⊎_elim
            (λ (earlier : IsAmong a.ready.items n e.thread). sooner_still c.entry d.entry e sooner (best.soonest e ready earlier))
            (λ (same : e.thread ≡ t). is_own e ready same)
            (among_more a.ready.items n e.thread t here among);
      }

      pub better-old : (d : Candidate) → IsBestIn a n d → IsNotLater d.entry c.entry → IsBestIn a (n + 1) d
      better-old d best sooner = record {
        there = best.there;
        ready = best.ready;
        soonest = λ e ready among. ⊎_elim
            (λ (earlier : IsAmong a.ready.items n e.thread). best.soonest e ready earlier)
            (λ (same : e.thread ≡ t). subst (IsNotLater d.entry) (sym (own.only e ready same)) sooner)
            (among_more a.ready.items n e.thread t here among);
      }
