-- Bars that are renewed one after the other.
use Rattle.std.proofs.Common.{◌≡◌, ◌≢◌, ℕ, zero, suc, ◌+◌, ◌-◌, ◌<◌, ◌≤◌, Bool, true, false, not, ◌||◌, ◌==◌, if◌then◌else◌, List, [], ◌∷◌, length, length-set, Option, Some, None, slice_get, slice_set, ⊎_elim, refl, ap, sym, ◌∙◌, arith, eq-eqb, ne_eqb}
use Rattle.std.proofs.lemmas.Bool.{cases_Bool, cases_eq}
use Rattle.std.proofs.lemmas.Option.{slice_get_within}
use Rattle.tm_base.specs.declared.bars.Bar.{Bar}
use Rattle.tm_base.specs.declared.events.Entry.{Entry}
use Rattle.tm_replay.specs.declared.phases.Phase.{Phase}
use Rattle.tm_replay.specs.declared.phases.Phase.TheVariants as phase
use Rattle.tm_replay.specs.JointStates.{ThreadState, ObjectState}
use Rattle.tm_replay.specs.SoundStates.{waits_at}
use Rattle.tm_replay.proofs.SliceLemmas.{slice_get-set_same}
use Rattle.tm_base.specs.States.{queued}
use Rattle.tm_joint.specs.Showing.{Renews, RenewsOne, Shows, ShowsOne, bar_by, grants_none, heir_alone, is_another, renewed, spares, waiting_bar}

pub slice_get-set_other : {A : Type 0} (xs : List A) (i k : ℕ) (v : A) → k ≢ i → slice_get (slice_set xs i v) k ≡ slice_get xs k
slice_get-set_other [] i k v ne = refl
slice_get-set_other (x ∷ xs) zero zero v ne = absurd (ne refl)
slice_get-set_other (x ∷ xs) zero (suc k) v ne = refl
slice_get-set_other (x ∷ xs) (suc i) zero v ne = refl
slice_get-set_other (x ∷ xs) (suc i) (suc k) v ne = slice_get-set_other xs i k v (λ e. ne (ap suc e))

-- the bar of thread t is set, and of no other thread
module _ (bars : List Bar) (t : ℕ) (v : Bar) (program : 1 ≤ t) where
  pub set-own : t ≤ length bars → slice_get (slice_set bars (t - 1) v) (t - 1) ≡ Some v
  set-own known = slice_get-set_same bars (t - 1) v (omega (arith, known, program))

  pub set-other : (u : ℕ) → 1 ≤ u → u ≢ t → slice_get (slice_set bars (t - 1) v) (u - 1) ≡ slice_get bars (u - 1)
  set-other u h ne = slice_get-set_other bars (t - 1) (u - 1) v (λ e. ne (omega (arith, e, h, program)))

-- the threads below k are done, and the others are as before
pub record Done (threads : List ThreadState) (b : ObjectState) (object : ℕ) (old : List Bar) (k : ℕ) (now : List Bar) : Type 0 where
  pub count : length now ≡ length old
  pub done : (t : ℕ) (s : ThreadState) → 1 ≤ t → t < k → slice_get threads t ≡ Some s → slice_get now (t - 1) ≡ renewed b object t s (slice_get old (t - 1))
  pub rest : (t : ℕ) → k ≤ t → slice_get now (t - 1) ≡ slice_get old (t - 1)

module _ (threads : List ThreadState) (b : ObjectState) (object : ℕ) (old : List Bar) where
  pub Done-start : Done threads b object old 1 old
  Done-start = record { count = refl; done = λ t s h lt _. absurd (omega (arith, h, lt)); rest = λ t _. refl }

  -- one more thread is done
  pub Done-one : (k : ℕ) (now new : List Bar) → 1 ≤ k → Done threads b object old k now → RenewsOne threads b object k now new → Done threads b object old (k + 1) new
  Done-one k now new program before one = record {
    count = one.count ∙ before.count;
    done = λ t r h lt found. ⊎_elim
        (λ (same : t ≡ k).
        let here : slice_get threads k ≡ Some r = ap (slice_get threads) (sym same) ∙ found in
        let was : slice_get now (k - 1) ≡ slice_get old (k - 1) = before.rest k (omega arith) in
        ap (λ n. slice_get new (n - 1)) same ∙ one.own r here ∙ ap (renewed b object k r) was ∙ ap (λ n. renewed b object n r (slice_get old (n - 1))) (sym same))
        (λ (ne : t ≢ k). one.others t h ne ∙ before.done t r h (omega (arith, lt, ne)) found)
        (cases_eq t k);
    rest = λ t le. one.others t (omega (arith, le, program)) (λ e. omega (arith, e, le)) ∙ before.rest t (omega (arith, le));
  }

  pub Done-renews : (k : ℕ) (now : List Bar) → length threads ≤ k → Done threads b object old k now → Renews threads b object old now
  Done-renews k now all before = record {
    count = before.count;
    bars = λ t s h found. before.done t s h (omega (arith, slice_get_within threads t s found, all)) found;
  }

-- one thread waits there, and its bar is set; or it doesn't, and nothing changes
module _ (threads : List ThreadState) (b : ObjectState) (object t : ℕ) (s : ThreadState) (old : List Bar) (here : slice_get threads t ≡ Some s) where
  same_state : (r : ThreadState) → slice_get threads t ≡ Some r → s ≡ r
  same_state r found = let both : Some s ≡ Some r = sym here ∙ found in cc

  pub RenewsOne-set : 1 ≤ t → t ≤ length old → waits_at s.phase object ≡ true → RenewsOne threads b object t old (slice_set old (t - 1) (waiting_bar b t))
  RenewsOne-set program known waits =
      let v = waiting_bar b t in
      record {
        count = length-set old (t - 1) v;
        own = λ r found.
            set-own old t v program known
            ∙ sym (ap (λ (q : ThreadState). renewed b object t q (slice_get old (t - 1))) (sym (same_state r found))
            ∙ ap (λ w. if w then Some v else slice_get old (t - 1)) waits);
        others = λ u h ne. set-other old t v program u h ne;
      }

  pub RenewsOne-keep : waits_at s.phase object ≡ false → RenewsOne threads b object t old old
  RenewsOne-keep waits = record {
    count = refl;
    own = λ r found.
        sym (ap (λ (q : ThreadState). renewed b object t q (slice_get old (t - 1))) (sym (same_state r found))
        ∙ ap (λ w. if w then Some (waiting_bar b t) else slice_get old (t - 1)) waits);
    others = λ u h ne. refl;
  }

-- the bar of one thread was set
pub ShowsOne-set : (threads : List ThreadState) (b : ObjectState) (t : ℕ) (s : ThreadState) (old : List Bar) → 1 ≤ t → t ≤ length old → slice_get threads t ≡ Some s
    → ShowsOne threads b t old (slice_set old (t - 1) (bar_by b t s.phase))
ShowsOne-set threads b t s old program known here =
    let v = bar_by b t s.phase in
    record {
      count = length-set old (t - 1) v;
      own = λ r _ found.
          let both : Some s ≡ Some r = sym here ∙ found in
          let is : s ≡ r = cc in
          set-own old t v program known ∙ ap (λ (q : ThreadState). Some (bar_by b t q.phase)) is;
      others = λ u h ne. set-other old t v program u h ne;
    }

-- a thread that waits at the object has the bar of one that does
bar_by-waits : (b : ObjectState) (t object : ℕ) (p : Phase) → waits_at p object ≡ true → bar_by b t p ≡ waiting_bar b t
bar_by-waits b t object (phase.Waits at) h = refl
bar_by-waits b t object phase.Main h = absurd cc
bar_by-waits b t object phase.NotBegun h = absurd cc
bar_by-waits b t object phase.Free h = absurd cc
bar_by-waits b t object (phase.Ended cut) h = absurd cc

-- a thread that was shown is as one that is renewed
renewed-shown : (b : ObjectState) (object t : ℕ) (s : ThreadState) → renewed b object t s (Some (bar_by b t s.phase)) ≡ Some (bar_by b t s.phase)
renewed-shown b object t s = ⊎_elim
    (λ (yes : waits_at s.phase object ≡ true).
    ap (λ w. if w then Some (waiting_bar b t) else Some (bar_by b t s.phase)) yes ∙ sym (ap (λ v. Some v) (bar_by-waits b t object s.phase yes)))
    (λ (no_wait : waits_at s.phase object ≡ false). ap (λ w. if w then Some (waiting_bar b t) else Some (bar_by b t s.phase)) no_wait)
    (cases_Bool (waits_at s.phase object))

module _ (threads : List ThreadState) (b : ObjectState) (e : Entry) (before : ℕ) (old mid : List Bar) (one : ShowsOne threads b e.thread old mid) where
  abbrev waiting : ℕ
  waiting = length (queued b.view.state.kind_state)

  abbrev chosen : ℕ → ThreadState → Bool → Option Bar
  chosen t s w = if w then slice_get old (t - 1) else renewed b e.object t s (slice_get old (t - 1))

  -- nobody was granted
  pub Shows-none : grants_none b e.thread before ≡ true → Shows threads b e before old mid
  Shows-none none = record {
    count = one.count;
    own = one.own;
    others = λ t s h ne found.
        one.others t h ne ∙ sym (ap (λ w. chosen t s (w || is_another (heir_alone e.reply waiting before) t)) none);
  }

  -- some were, and those that wait at the object are shown
  pub Shows-renewed : (new : List Bar) → Renews threads b e.object mid new → grants_none b e.thread before ≡ false → heir_alone e.reply waiting before ≡ None → Shows threads b e before old new
  Shows-renewed new all some several = record {
    count = all.count ∙ one.count;
    own = λ s h found.
        let was : slice_get mid (e.thread - 1) ≡ Some (bar_by b e.thread s.phase) = one.own s h found in
        all.bars e.thread s h found ∙ ap (renewed b e.object e.thread s) was ∙ renewed-shown b e.object e.thread s;
    others = λ t s h ne found.
        all.bars t s h found ∙ ap (renewed b e.object t s) (one.others t h ne)
        ∙ sym (ap (λ w. chosen t s (w || is_another (heir_alone e.reply waiting before) t)) some
        ∙ ap (λ o. chosen t s (is_another o t)) several);
  }

  -- one was, and is shown
  pub Shows-heir : (new : List Bar) (heir : ℕ) → RenewsOne threads b e.object heir mid new → 1 ≤ heir → grants_none b e.thread before ≡ false
      → heir_alone e.reply waiting before ≡ Some heir → Shows threads b e before old new
  Shows-heir new heir it program some alone = record {
    count = it.count ∙ one.count;
    own = λ s h found. own-shown s h found (one.own s h found);
    others = λ t s h ne found.
        let by : chosen t s (spares b e before t) ≡ chosen t s (not (heir == t)) =
        ap (λ w. chosen t s (w || is_another (heir_alone e.reply waiting before) t)) some ∙ ap (λ o. chosen t s (is_another o t)) alone in
        ⊎_elim
        (λ (same : t ≡ heir).
        let here : slice_get threads heir ≡ Some s = ap (slice_get threads) (sym same) ∙ found in
        ap (λ n. slice_get new (n - 1)) same ∙ it.own s here ∙ ap (λ n. renewed b e.object n s (slice_get mid (n - 1))) (sym same)
        ∙ ap (renewed b e.object t s) (one.others t h ne) ∙ sym (by ∙ ap (λ w. chosen t s (not w)) (eq-eqb heir t (sym same))))
        (λ (away : t ≢ heir).
        it.others t h away ∙ one.others t h ne ∙ sym (by ∙ ap (λ w. chosen t s (not w)) (ne_eqb heir t (λ q. away (sym q)))))
        (cases_eq t heir);
  }
    where
      own-shown : (s : ThreadState) → 1 ≤ e.thread → slice_get threads e.thread ≡ Some s → slice_get mid (e.thread - 1) ≡ Some (bar_by b e.thread s.phase) → slice_get new (e.thread - 1) ≡ Some (bar_by b e.thread s.phase)
      own-shown s h found was = ⊎_elim
          (λ (same : e.thread ≡ heir).
          let here : slice_get threads heir ≡ Some s = ap (slice_get threads) (sym same) ∙ found in
          ap (λ n. slice_get new (n - 1)) same ∙ it.own s here ∙ ap (λ n. renewed b e.object n s (slice_get mid (n - 1))) (sym same)
          ∙ ap (renewed b e.object e.thread s) was ∙ renewed-shown b e.object e.thread s)
          (λ (away : e.thread ≢ heir). it.others e.thread h away ∙ was)
          (cases_eq e.thread heir)
