-- The bars after an event are those of the joint state that it leaves.
use Rattle.std.proofs.Common.{◌≡◌, ◌≢◌, ℕ, zero, suc, ◌+◌, ◌-◌, ◌<◌, ◌≤◌, true, false, not, ◌||◌, ◌==◌, if◌then◌else◌, List, [], ◌∷◌, map, length, length-set, replicate, Option, Some, None, slice_get, ⊎_elim, refl, ap, sym, ◌∙◌, subst, arith, eq-eqb, ne_eqb, eqb-true}
use Rattle.std.specs.List.{range_with_len}
use Rattle.std.proofs.lemmas.Bool.{cases_Bool, cases_eq, false≢true}
use Rattle.std.proofs.lemmas.List.{length-map}
use Rattle.std.proofs.lemmas.List.FromFn.{length-map-range_with_len}
use Rattle.std.proofs.lemmas.Option.{slice_get_within}
use Rattle.tm_base.specs.declared.bars.Bar.{Bar}
use Rattle.tm_base.specs.declared.bars.Bar.TheVariants as bar
use Rattle.tm_base.specs.declared.operations.Op.{Op}
use Rattle.tm_base.specs.declared.operations.Op.TheVariants as op
use Rattle.tm_base.specs.declared.replies.Reply.{Reply}
use Rattle.tm_base.specs.declared.replies.Reply.TheVariants as reply
use Rattle.tm_base.specs.declared.events.Entry.{Entry}
use Rattle.tm_base.specs.States.{is_waiting, queued}
use Rattle.tm_base.specs.Histories.{Lawful}
use Rattle.tm_laws.specs.Counts.{bit}
use Rattle.tm_text.specs.Exercises.{ExerciseView}
use Rattle.tm_programs.specs.declared.instructions.Instruction.{Instruction}
use Rattle.tm_replay.specs.declared.phases.Phase.{Phase}
use Rattle.tm_replay.specs.declared.phases.Phase.TheVariants as phase
use Rattle.tm_replay.specs.JointStates.{JointState, ThreadState, ObjectState, start, unbegun}
use Rattle.tm_replay.specs.JointSteps.{JointStep, entered, phase_after, phase_by, stepped}
use Rattle.tm_replay.specs.SoundStates.{IsSoundJoint, waits_at}
use Rattle.tm_replay.specs.Bars.{bar_for, bar_in, bar_of, bars_of, waits_in}
use Rattle.tm_replay.proofs.SliceLemmas.{found_at, slice_get-set_same}
use Rattle.tm_joint.specs.Showing.{Shows, bar_by, grants_none, heir_alone, is_another, renewed, spares, waiting_bar}
use Rattle.tm_joint.proofs.Granted.{alike, alike-heir}
use Rattle.tm_joint.proofs.Renewing.{slice_get-set_other}

-- lists with the same elements are equal
same_elements : {A : Type 0} (xs ys : List A) → length xs ≡ length ys → ((i : ℕ) → i < length xs → slice_get xs i ≡ slice_get ys i) → xs ≡ ys
same_elements [] [] e h = refl
same_elements [] (y ∷ ys) e h = absurd (omega (arith, e))
same_elements (x ∷ xs) [] e h = absurd (omega (arith, e))
same_elements (x ∷ xs) (y ∷ ys) e h =
    let first : Some x ≡ Some y = h 0 (omega arith) in
    let same : x ≡ y = cc in
    ap (λ z. z ∷ xs) same ∙ ap (λ l. y ∷ l) (same_elements xs ys (omega (arith, e)) (λ i lt. h (suc i) (omega (arith, lt))))

range-at : {A : Type 0} (f : ℕ → A) (a n i : ℕ) → i < n → slice_get (map f (range_with_len a n)) i ≡ Some (f (a + i))
range-at f a zero i h = absurd (omega (arith, h))
range-at f a (suc n) zero h = let plain : a ≡ a + 0 = omega arith in ap (λ k. Some (f k)) plain
range-at f a (suc n) (suc i) h =
    let next : a + 1 + i ≡ a + suc i = omega arith in
    range-at f (a + 1) n i (omega (arith, h)) ∙ ap (λ k. Some (f k)) next

-- each program thread's bar stands in its place
pub bars-at : (j : JointState) (t : ℕ) → 1 ≤ t → t < length j.threads → slice_get (bars_of j) (t - 1) ≡ Some (bar_of j t)
bars-at j t low high =
    let back : 1 + (t - 1) ≡ t = omega (arith, low) in
    range-at (bar_of j) 1 (length j.threads - 1) (t - 1) (omega (arith, low, high)) ∙ ap (λ k. Some (bar_of j k)) back

pub length-bars : (j : JointState) → length (bars_of j) ≡ length j.threads - 1
length-bars j = length-map-range_with_len (bar_of j) 1 (length j.threads - 1)

bars-from : (j : JointState) (bars : List Bar) → length bars ≡ length j.threads - 1
    → ((t : ℕ) → 1 ≤ t → t < length j.threads → slice_get bars (t - 1) ≡ Some (bar_of j t)) → bars ≡ bars_of j
bars-from j bars count each =
    same_elements bars (bars_of j) (count ∙ sym (length-bars j))
    (λ i lt.
    let back : suc i - 1 ≡ i = omega arith in
    let low : 1 ≤ suc i = omega arith in
    let high : suc i < length j.threads = omega (arith, lt, count) in
    ap (slice_get bars) (sym back) ∙ each (suc i) low high ∙ sym (bars-at j (suc i) low high) ∙ ap (slice_get (bars_of j)) back)

-- no thread has begun at the start
replicate-at : (n i : ℕ) (v : Bar) → i < n → slice_get (replicate n v) i ≡ Some v
replicate-at zero i v h = absurd (omega (arith, h))
replicate-at (suc n) zero v h = refl
replicate-at (suc n) (suc i) v h = replicate-at n i v (omega (arith, h))

length-replicated : (n : ℕ) (v : Bar) → length (replicate n v) ≡ n
length-replicated zero v = refl
length-replicated (suc n) v = ap suc (length-replicated n v)

unborn-for : (j : JointState) (t : ℕ) (programs : List (List Instruction)) (i : ℕ) → bar_for j t (slice_get (map unbegun programs) i) ≡ bar.Unborn
unborn-for j t [] i = refl
unborn-for j t (p ∷ ps) zero = refl
unborn-for j t (p ∷ ps) (suc i) = unborn-for j t ps i

pub start-bars : (x : ExerciseView) → replicate (length x.programs) bar.Unborn ≡ bars_of (start x)
start-bars x =
    let n = length x.programs in
    let count : length (start x).threads ≡ suc n = ap suc (length-map x.programs unbegun) in
    bars-from (start x) (replicate n bar.Unborn) (omega (arith, length-replicated n bar.Unborn, count)) (each n count)
  where
    at-start : (t : ℕ) → 1 ≤ t → bar_of (start x) t ≡ bar.Unborn
    at-start zero h = absurd (omega (arith, h))
    at-start (suc t) h = unborn-for (start x) (suc t) x.programs t

    each : (n : ℕ) → length (start x).threads ≡ suc n → (t : ℕ) → 1 ≤ t → t < length (start x).threads → slice_get (replicate n bar.Unborn) (t - 1) ≡ Some (bar_of (start x) t)
    each n count t low high = replicate-at n (t - 1) bar.Unborn (omega (arith, count, low, high)) ∙ ap (λ b. Some b) (sym (at-start t low))

-- an event makes its thread wait at its object, or nowhere
phase_by-at : (o : Op) (r : Reply) (object at : ℕ) → phase_by o r object ≡ phase.Waits at → at ≡ object
phase_by-at (op.End cut) r object at e = absurd cc
phase_by-at o reply.Wait object at e = let same : object ≡ at = cc in sym same
phase_by-at o r object at e = absurd cc

phase_after-at : (p : Phase) (e : Entry) (at : ℕ) → phase_after p e ≡ phase.Waits at → at ≡ e.object
phase_after-at phase.Main e at h = absurd cc
phase_after-at phase.NotBegun e at h = phase_by-at e.op e.reply e.object at h
phase_after-at phase.Free e at h = phase_by-at e.op e.reply e.object at h
phase_after-at (phase.Waits o) e at h = phase_by-at e.op e.reply e.object at h
phase_after-at (phase.Ended cut) e at h = phase_by-at e.op e.reply e.object at h

bar_in-waits : (k : JointState) (t at : ℕ) (b : ObjectState) → slice_get k.objects at ≡ Some b → bar_in k t (phase.Waits at) ≡ waiting_bar b t
bar_in-waits k t at b found = ap (λ o. if waits_in o t then bar.Blocked else bar.Granted) found

-- the bar of a thread that waits at the object, if at any
bar_by-in : (k : JointState) (t object : ℕ) (b : ObjectState) (p : Phase) → slice_get k.objects object ≡ Some b → ((at : ℕ) → p ≡ phase.Waits at → at ≡ object) → bar_by b t p ≡ bar_in k t p
bar_by-in k t object b phase.Main found at = refl
bar_by-in k t object b phase.NotBegun found at = refl
bar_by-in k t object b phase.Free found at = refl
bar_by-in k t object b (phase.Waits o) found at = sym (bar_in-waits k t o b (ap (slice_get k.objects) (at o refl) ∙ found))
bar_by-in k t object b (phase.Ended cut) found at = refl

module _ (x : ExerciseView) (j k : JointState) (e : Entry) (sound : IsSoundJoint x j) (step : JointStep x j e k) where
  abbrev b : ObjectState
  b = step.happens.object_state

  abbrev b' : ObjectState
  b' = entered b e step.happens.state

  now-object : slice_get k.objects e.object ≡ Some b'
  now-object = ap (λ l. slice_get l e.object) step.happens.objects ∙ slice_get-set_same j.objects e.object b' (slice_get_within j.objects e.object b step.happens.object)

  other-object : (o : ℕ) → o ≢ e.object → slice_get k.objects o ≡ slice_get j.objects o
  other-object o ne = ap (λ l. slice_get l o) step.happens.objects ∙ slice_get-set_other j.objects e.object o b' ne

  same-count : length k.threads ≡ length j.threads
  same-count = ap length step.happens.threads ∙ length-set j.threads e.thread (stepped step.happens.thread_state e)

  now-thread : slice_get k.threads e.thread ≡ Some (stepped step.happens.thread_state e)
  now-thread = ap (λ l. slice_get l e.thread) step.happens.threads ∙ slice_get-set_same j.threads e.thread (stepped step.happens.thread_state e) (slice_get_within j.threads e.thread step.happens.thread_state step.happens.thread)

  other-thread : (t : ℕ) → t ≢ e.thread → slice_get k.threads t ≡ slice_get j.threads t
  other-thread t ne = ap (λ l. slice_get l t) step.happens.threads ∙ slice_get-set_other j.threads e.thread t (stepped step.happens.thread_state e) ne

  -- another thread's bar, by its phase
  module _ (t : ℕ) (low : 1 ≤ t) (high : t ≤ length x.programs) (ne : t ≢ e.thread) where
    -- how many calls wait after the event, and before it
    abbrev after : ℕ
    after = length (queued step.happens.state.kind_state)

    abbrev earlier : ℕ
    earlier = length (queued b.view.state.kind_state)

    still-none : grants_none b' e.thread earlier ≡ true → is_waiting b'.view.state t ≡ is_waiting b.view.state t
    still-none none =
        let placed = sound.objects e.object b step.happens.object in
        alike b.view e.thread e.op e.reply step.happens.state placed.sound step.happens.lawful
        (eqb-true after (earlier + bit (is_waiting step.happens.state e.thread)) none) t ne low (omega (arith, high, placed.threads))

    still-heir : (r : Reply) → e.reply ≡ r → is_another (heir_alone r after earlier) t ≡ true → is_waiting b'.view.state t ≡ is_waiting b.view.state t
    still-heir (reply.Gave heir) is another = ⊎_elim
        (λ (one : (after + 1 == earlier) ≡ true).
        let placed = sound.objects e.object b step.happens.object in
        let apart : not (heir == t) ≡ true = sym (ap (λ w. is_another (if w then Some heir else None) t) one) ∙ another in
        alike-heir b.view e.thread e.op heir step.happens.state placed.sound (subst (λ (r : Reply). Lawful b.view e.thread e.op r step.happens.state) is step.happens.lawful)
        (eqb-true (after + 1) earlier one) t (λ same. false≢true (sym (ap not (eq-eqb heir t (sym same))) ∙ apart)) low (omega (arith, high, placed.threads)))
        (λ (several : (after + 1 == earlier) ≡ false).
        absurd (false≢true (sym (ap (λ w. is_another (if w then Some heir else None) t) several) ∙ another)))
        (cases_Bool (after + 1 == earlier))
    still-heir r is another = absurd (false≢true another)

    still : spares b' e earlier t ≡ true → is_waiting b'.view.state t ≡ is_waiting b.view.state t
    still spared = ⊎_elim
        still-none
        (λ (some : grants_none b' e.thread earlier ≡ false).
        still-heir e.reply refl (sym (ap (λ w. w || is_another (heir_alone e.reply after earlier) t) some) ∙ spared))
        (cases_Bool (grants_none b' e.thread earlier))

    abbrev shown : ThreadState → Option Bar
    shown s = if spares b' e (length (queued b.view.state.kind_state)) t then Some (bar_in j t s.phase) else renewed b' e.object t s (Some (bar_in j t s.phase))

    elsewhere : (s : ThreadState) → waits_at s.phase e.object ≡ false → bar_in j t s.phase ≡ bar_in k t s.phase → shown s ≡ Some (bar_in k t s.phase)
    elsewhere s away same = ⊎_elim
        (λ (none : spares b' e (length (queued b.view.state.kind_state)) t ≡ true).
        ap (λ w. if w then Some (bar_in j t s.phase) else renewed b' e.object t s (Some (bar_in j t s.phase))) none ∙ ap (λ v. Some v) same)
        (λ (some : spares b' e (length (queued b.view.state.kind_state)) t ≡ false).
        ap (λ w. if w then Some (bar_in j t s.phase) else renewed b' e.object t s (Some (bar_in j t s.phase))) some
        ∙ ap (λ w. if w then Some (waiting_bar b' t) else Some (bar_in j t s.phase)) away ∙ ap (λ v. Some v) same)
        (cases_Bool (spares b' e (length (queued b.view.state.kind_state)) t))

    here : (s : ThreadState) → s.phase ≡ phase.Waits e.object → shown s ≡ Some (bar_in k t s.phase)
    here s waits =
        let after : bar_in k t s.phase ≡ waiting_bar b' t = ap (bar_in k t) waits ∙ bar_in-waits k t e.object b' now-object in
        let was : bar_in j t s.phase ≡ waiting_bar b t = ap (bar_in j t) waits ∙ bar_in-waits j t e.object b step.happens.object in
        let at : waits_at s.phase e.object ≡ true = ap (λ p. waits_at p e.object) waits ∙ eq-eqb e.object e.object refl in
        ⊎_elim
        (λ (none : spares b' e (length (queued b.view.state.kind_state)) t ≡ true).
        ap (λ w. if w then Some (bar_in j t s.phase) else renewed b' e.object t s (Some (bar_in j t s.phase))) none ∙ ap (λ v. Some v) was
        ∙ ap (λ w. Some (if w then bar.Blocked else bar.Granted)) (sym (still none)) ∙ ap (λ v. Some v) (sym after))
        (λ (some : spares b' e (length (queued b.view.state.kind_state)) t ≡ false).
        ap (λ w. if w then Some (bar_in j t s.phase) else renewed b' e.object t s (Some (bar_in j t s.phase))) some
        ∙ ap (λ w. if w then Some (waiting_bar b' t) else Some (bar_in j t s.phase)) at ∙ ap (λ v. Some v) (sym after))
        (cases_Bool (spares b' e (length (queued b.view.state.kind_state)) t))

    other-bar : (s : ThreadState) (p : Phase) → s.phase ≡ p → shown s ≡ Some (bar_in k t s.phase)
    other-bar s phase.Main is = elsewhere s (ap (λ p. waits_at p e.object) is) (ap (bar_in j t) is ∙ sym (ap (bar_in k t) is))
    other-bar s phase.NotBegun is = elsewhere s (ap (λ p. waits_at p e.object) is) (ap (bar_in j t) is ∙ sym (ap (bar_in k t) is))
    other-bar s phase.Free is = elsewhere s (ap (λ p. waits_at p e.object) is) (ap (bar_in j t) is ∙ sym (ap (bar_in k t) is))
    other-bar s (phase.Ended cut) is = elsewhere s (ap (λ p. waits_at p e.object) is) (ap (bar_in j t) is ∙ sym (ap (bar_in k t) is))
    other-bar s (phase.Waits at) is = ⊎_elim
        (λ (same : at ≡ e.object). here s (is ∙ ap phase.Waits same))
        (λ (away : at ≢ e.object). elsewhere s (ap (λ p. waits_at p e.object) is ∙ ne_eqb at e.object away)
        (ap (bar_in j t) is ∙ ap (λ o. if waits_in o t then bar.Blocked else bar.Granted) (sym (other-object at away)) ∙ sym (ap (bar_in k t) is)))
        (cases_eq at e.object)

  -- what was shown are the bars of the state after the event
  pub Shows-bars : (old new : List Bar) → old ≡ bars_of j → Shows k.threads b' e (length (queued b.view.state.kind_state)) old new → new ≡ bars_of k
  Shows-bars old new were shows = bars-from k new (shows.count ∙ ap length were ∙ length-bars j ∙ ap (λ n. n - 1) (sym same-count)) each
    where
      own : 1 ≤ e.thread → slice_get new (e.thread - 1) ≡ Some (bar_of k e.thread)
      own low =
          let s = stepped step.happens.thread_state e in
          shows.own s low now-thread
          ∙ ap (λ v. Some v) (bar_by-in k e.thread e.object b' s.phase now-object (phase_after-at step.happens.thread_state.phase e) ∙ sym (ap (bar_for k e.thread) now-thread))

      other : (t : ℕ) → 1 ≤ t → t < length k.threads → t ≢ e.thread → slice_get new (t - 1) ≡ Some (bar_of k t)
      other t low high ne =
          let s = found_at k.threads t high in
          let in_old : t < length j.threads = omega (arith, high, same-count) in
          let was : slice_get old (t - 1) ≡ Some (bar_in j t s.0.phase) =
          ap (λ l. slice_get l (t - 1)) were ∙ bars-at j t low in_old ∙ ap (λ o. Some (bar_for j t o)) (sym (other-thread t ne) ∙ s.1) in
          shows.others t s.0 low ne s.1
          ∙ ap (λ o. if spares b' e (length (queued b.view.state.kind_state)) t then o else renewed b' e.object t s.0 o) was
          ∙ other-bar t low (omega (arith, in_old, sound.thread_count)) ne s.0 s.0.phase refl
          ∙ ap (λ o. Some (bar_for k t o)) (sym s.1)

      each : (t : ℕ) → 1 ≤ t → t < length k.threads → slice_get new (t - 1) ≡ Some (bar_of k t)
      each t low high = ⊎_elim
          (λ (same : t ≡ e.thread). ap (λ n. slice_get new (n - 1)) same ∙ own (subst (λ (n : ℕ). 1 ≤ n) same low) ∙ ap (λ n. Some (bar_of k n)) (sym same))
          (λ (ne : t ≢ e.thread). other t low high ne)
          (cases_eq t e.thread)

-- the same, where the object's states before and after the event were found
pub Shows-after : (x : ExerciseView) (j k : JointState) (e : Entry) → IsSoundJoint x j → JointStep x j e k → (b c : ObjectState) → slice_get j.objects e.object ≡ Some b → slice_get k.objects e.object ≡ Some c
    → (before : ℕ) → before ≡ length (queued b.view.state.kind_state) → (old new : List Bar) → old ≡ bars_of j → Shows k.threads c e before old new → new ≡ bars_of k
Shows-after x j k e sound step b c was now before waits old new were shows =
    let old_object : Some b ≡ Some step.happens.object_state = sym was ∙ step.happens.object in
    let same : b ≡ step.happens.object_state = cc in
    let new_object : Some c ≡ Some (entered step.happens.object_state e step.happens.state) = sym now ∙ now-object x j k e sound step in
    let entered-same : c ≡ entered step.happens.object_state e step.happens.state = cc in
    let count : before ≡ length (queued step.happens.object_state.view.state.kind_state) = waits ∙ ap (λ (d : ObjectState). length (queued d.view.state.kind_state)) same in
    Shows-bars x j k e sound step old new were
    (subst (λ (n : ℕ). Shows k.threads (entered step.happens.object_state e step.happens.state) e n old new) count
    (subst (λ (d : ObjectState). Shows k.threads d e before old new) entered-same shows))
