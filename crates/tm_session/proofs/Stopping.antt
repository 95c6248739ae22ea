-- Which objects `main` stops.
use Rattle.std.proofs.Common.{◌≡◌, ◌≢◌, ℕ, zero, suc, ◌+◌, ◌<◌, ◌≤◌, Bool, true, false, not, ◌&&◌, ⊎_elim, cond, if◌then◌else◌, List, [], ◌∷◌, filter, length, Option, Some, None, slice_get, slice_set, refl, ap, sym, ◌∙◌, subst, arith}
use Rattle.std.specs.List.{range_with_len, list_all, AllByRecursion}
use Rattle.std.proofs.lemmas.Bool.{cases_Bool, false≢true}
use Rattle.std.proofs.lemmas.Option.{slice_get_within}
use Rattle.tm_base.specs.declared.bars.Bar.{Bar}
use Rattle.tm_base.specs.declared.bars.Bar.TheVariants as bar
use Rattle.tm_base.specs.States.{is_queued, queued}
use Rattle.tm_text.specs.Exercises.{ExerciseView}
use Rattle.tm_replay.specs.declared.phases.Phase.{Phase}
use Rattle.tm_replay.specs.declared.phases.Phase.TheVariants as phase
use Rattle.tm_replay.specs.JointStates.{JointState, ThreadState, ObjectState}
use Rattle.tm_replay.specs.Bars.{bar_of, bar_for, bar_in, bars_of, is_runnable, is_ended, is_over, is_stuck, waits_in, is_some_queued, has_waiter, waited_objects}
use Rattle.tm_replay.specs.SoundStates.{IsSoundJoint, IsAmong}
use Rattle.tm_session.specs.Turns.{AreWaited}
use Rattle.tm_session.specs.Turns.{due_by}
use Rattle.tm_session.proofs.ChoicesLemmas.{bar-at, bars-count}

-- what a range keeps rises from its start
filter-rises : (p : ℕ → Bool) (low a n : ℕ) → low < a → AllByRecursion (λ k. low < k) (filter p (range_with_len a n))
filter-rises p low a zero h = tt
filter-rises p low a (suc n) h = go (p a) (filter-rises p low (a + 1) n (omega (arith, h)))
  where
    go : (b : Bool) → AllByRecursion (λ k. low < k) (filter p (range_with_len (a + 1) n)) → AllByRecursion (λ k. low < k) (cond b (a ∷ filter p (range_with_len (a + 1) n)) (filter p (range_with_len (a + 1) n)))
    go true later = (h, later)
    go false later = later

waited-range : (j : JointState) (a n : ℕ) → AreWaited j (filter (λ o. has_waiter (slice_get j.objects o)) (range_with_len a n))
waited-range j a zero = tt
waited-range j a (suc n) = go (has_waiter (slice_get j.objects a)) refl (waited-range j (a + 1) n)
  where
    go : (b : Bool) → has_waiter (slice_get j.objects a) ≡ b
        → AreWaited j (filter (λ o. has_waiter (slice_get j.objects o)) (range_with_len (a + 1) n))
        → AreWaited j (cond b (a ∷ filter (λ o. has_waiter (slice_get j.objects o)) (range_with_len (a + 1) n)) (filter (λ o. has_waiter (slice_get j.objects o)) (range_with_len (a + 1) n)))
    go true e later = (e, filter-rises (λ o. has_waiter (slice_get j.objects o)) a (a + 1) n (omega arith), later)
    go false e later = later

-- those that are due have waiters
pub due-waited : (j : JointState) (stops : List ℕ) → AreWaited j stops → AreWaited j (due_by stops j)
due-waited j (o ∷ os) h = h
due-waited j [] h = go (is_stuck (bars_of j))
  where
    go : (b : Bool) → AreWaited j (if b then waited_objects j else [])
    go true = waited-range j 0 (length j.objects)
    go false = tt

-- one that is queued makes a queue that isn't empty
queued-some : (queue : List ℕ) (t : ℕ) → is_queued queue t ≡ true → is_some_queued queue ≡ true
queued-some [] t h = absurd (false≢true h)
queued-some (x ∷ queue) t h = refl

-- a number of the range that passes is kept
filter-has : (p : ℕ → Bool) (a n k : ℕ) → a ≤ k → k < a + n → p k ≡ true → filter p (range_with_len a n) ≢ []
filter-has p a zero k low high pass h = omega (arith, low, high)
filter-has p a (suc n) k low high pass h = go (p a) refl h (λ l. filter-has p (a + 1) n k l (omega (arith, high)) pass)
  where
    go : (b : Bool) → p a ≡ b → cond (p a) (a ∷ filter p (range_with_len (a + 1) n)) (filter p (range_with_len (a + 1) n)) ≡ [] → (a + 1 ≤ k → filter p (range_with_len (a + 1) n) ≢ []) → ⊥
    go true e h later = let s : a ∷ filter p (range_with_len (a + 1) n) ≡ [] = sym (ap (λ b. cond b (a ∷ filter p (range_with_len (a + 1) n)) (filter p (range_with_len (a + 1) n))) e) ∙ h in cc
    go false e h later =
        let apart : a ≢ k = λ same. false≢true (sym e ∙ ap p same ∙ pass) in
        later (omega (arith, low, apart))
        (sym (ap (λ b. cond b (a ∷ filter p (range_with_len (a + 1) n)) (filter p (range_with_len (a + 1) n))) e) ∙ h)

-- a test that not all pass fails at some place
some-fails : (p : Bar → Bool) (bars : List Bar) → list_all p bars ≡ false → (i : ℕ) × (b : Bar) × (slice_get bars i ≡ Some b) × (p b ≡ false)
some-fails p [] h = absurd (false≢true (sym h))
some-fails p (b ∷ bars) h = go (p b) refl h (some-fails p bars)
  where
    go : (t : Bool) → p b ≡ t → (p b && list_all p bars) ≡ false → (list_all p bars ≡ false → (i : ℕ) × (c : Bar) × (slice_get bars i ≡ Some c) × (p c ≡ false)) → (i : ℕ) × (c : Bar) × (slice_get (b ∷ bars) i ≡ Some c) × (p c ≡ false)
    go false e h later = (0, b, refl, e)
    go true e h later =
        let more = later (sym (ap (λ t. t && list_all p bars) e) ∙ h) in (suc more.0, more.1, more.2, more.3)

pub all-pass : (p : Bar → Bool) (bars : List Bar) → list_all p bars ≡ true → (i : ℕ) (b : Bar) → slice_get bars i ≡ Some b → p b ≡ true
all-pass p [] h i b at = absurd cc
all-pass p (c ∷ bars) h i b at = go (p c) refl h (λ more k there. all-pass p bars more k b there) i at
  where
    go : (t : Bool) → p c ≡ t → (p c && list_all p bars) ≡ true → (list_all p bars ≡ true → (k : ℕ) → slice_get bars k ≡ Some b → p b ≡ true) → (k : ℕ) → slice_get (c ∷ bars) k ≡ Some b → p b ≡ true
    go true e h later zero here = let same : c ≡ b = cc in ap p (sym same) ∙ e
    go true e h later (suc k) there = later (sym (ap (λ t. t && list_all p bars) e) ∙ h) k there
    go false e h later k at = absurd (false≢true (sym (ap (λ t. t && list_all p bars) e) ∙ h))

stuck-parts : (over idle : Bool) → (not over && idle) ≡ true → (over ≡ false) × (idle ≡ true)
stuck-parts true idle h = absurd (false≢true h)
stuck-parts false idle h = (refl, h)

blocked-bar : (b : Bar) → is_ended b ≡ false → not (is_runnable b) ≡ true → b ≡ bar.Blocked
blocked-bar bar.Unborn e h = absurd (false≢true h)
blocked-bar bar.Runs e h = absurd (false≢true h)
blocked-bar bar.Blocked e h = refl
blocked-bar bar.Granted e h = absurd (false≢true h)
blocked-bar bar.Ended e h = absurd (false≢true (sym e))

-- in a stuck state an object has a waiter
pub stuck-waited : (x : ExerciseView) (j : JointState) → IsSoundJoint x j → is_stuck (bars_of j) ≡ true → waited_objects j ≢ []
stuck-waited x j sound stuck none =
    let parts = stuck-parts (is_over (bars_of j)) (list_all (λ b. not (is_runnable b)) (bars_of j)) stuck in
    let going = some-fails is_ended (bars_of j) parts.0 in
    let idle : not (is_runnable going.1) ≡ true = all-pass (λ b. not (is_runnable b)) (bars_of j) parts.1 going.0 going.1 going.2 in
    let inside = slice_get_within (bars_of j) going.0 going.1 going.2 in
    let here : Some going.1 ≡ Some (bar_of j (suc going.0)) = sym going.2 ∙ bar-at j going.0 (omega (arith, inside, bars-count j)) in
    let same : going.1 ≡ bar_of j (suc going.0) = cc in
    blocks (suc going.0) (sym same ∙ blocked-bar going.1 going.3 idle)
  where
    at_object : (t object : ℕ) (s : ThreadState) → slice_get j.threads t ≡ Some s → s.phase ≡ phase.Waits object → waits_in (slice_get j.objects object) t ≡ true → ⊥
    at_object t object s seat e waits =
        let among : object < length x.objects = subst (λ (p : Phase). IsAmong p (length x.objects)) e (sound.threads t s seat).among in
        filter-has (λ o. has_waiter (slice_get j.objects o)) 0 (length j.objects) object (omega arith) (omega (arith, among, sound.object_count)) (by_place (slice_get j.objects object) waits) none
      where
        by_place : (o : Option ObjectState) → waits_in o t ≡ true → has_waiter o ≡ true
        by_place None h = absurd (false≢true h)
        by_place (Some b) h = queued-some (queued b.view.state.kind_state) t h

    blocks : (t : ℕ) → bar_of j t ≡ bar.Blocked → ⊥
    blocks t h = by_seat (slice_get j.threads t) refl
      where
        by_phase : (s : ThreadState) (p : Phase) → slice_get j.threads t ≡ Some s → s.phase ≡ p → bar_in j t p ≡ bar.Blocked → ⊥
        by_phase s phase.Main seat e h = cc
        by_phase s phase.NotBegun seat e h = cc
        by_phase s phase.Free seat e h = cc
        by_phase s (phase.Ended cut) seat e h = cc
        by_phase s (phase.Waits object) seat e h = by_test (waits_in (slice_get j.objects object) t) refl h
          where
            by_test : (b : Bool) → waits_in (slice_get j.objects object) t ≡ b → (if b then bar.Blocked else bar.Granted) ≡ bar.Blocked → ⊥
            by_test true w h = at_object t object s seat e w
            by_test false w h = cc

        by_seat : (o : Option ThreadState) → slice_get j.threads t ≡ o → ⊥
        by_seat None e = let f : bar.Unborn ≡ bar.Blocked = sym (ap (bar_for j t) e) ∙ h in cc
        by_seat (Some s) e = by_phase s s.phase e refl (sym (ap (bar_for j t) e) ∙ h)

-- where nothing is due the state isn't stuck
pub none-due : (x : ExerciseView) (j : JointState) (stops : List ℕ) → IsSoundJoint x j → due_by stops j ≡ [] → (is_stuck (bars_of j) ≡ false) × (stops ≡ [])
none-due x j (o ∷ os) sound h = absurd cc
none-due x j [] sound h = (⊎_elim (λ (stuck : is_stuck (bars_of j) ≡ true). absurd (stuck-waited x j sound stuck (sym (ap (λ b. if b then waited_objects j else []) stuck) ∙ h))) (λ (free : is_stuck (bars_of j) ≡ false). free) (cases_Bool (is_stuck (bars_of j))), refl)

-- an event on one object leaves the waiters of the others
pub slice_get-set_other : {A : Type 0} (xs : List A) (i k : ℕ) (v : A) → k ≢ i → slice_get (slice_set xs i v) k ≡ slice_get xs k
slice_get-set_other [] i k v ne = refl
slice_get-set_other (x ∷ xs) zero zero v ne = absurd (ne refl)
slice_get-set_other (x ∷ xs) zero (suc k) v ne = refl
slice_get-set_other (x ∷ xs) (suc i) zero v ne = refl
slice_get-set_other (x ∷ xs) (suc i) (suc k) v ne = slice_get-set_other xs i k v (λ e. ne (ap suc e))

pub waited-after : (j k : JointState) (o : ℕ) (b : ObjectState) → k.objects ≡ slice_set j.objects o b → (os : List ℕ) → AllByRecursion (λ p. o < p) os → AreWaited j os → AreWaited k os
waited-after j k o b set [] above h = tt
waited-after j k o b set (p ∷ os) above h =
    let apart : p ≢ o = λ e. omega (arith, above.0, e) in
    (ap has_waiter (ap (λ l. slice_get l p) set ∙ slice_get-set_other j.objects o p b apart) ∙ h.0, h.1, waited-after j k o b set os above.1 h.2)
