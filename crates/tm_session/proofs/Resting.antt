-- Where every thread has ended nothing goes on.
use Rattle.std.proofs.Common.{◌≡◌, ℕ, zero, suc, ◌≤◌, ◌<◌, Bool, true, false, if◌then◌else◌, List, [], ◌∷◌, length, Option, Some, None, slice_get, refl, ap, sym, ◌∙◌, arith, eq-eqb}
use Rattle.std.proofs.lemmas.Bool.{false≢true}
use Rattle.tm_base.specs.declared.bars.Bar.{Bar}
use Rattle.tm_base.specs.declared.bars.Bar.TheVariants as bar
use Rattle.tm_base.specs.declared.events.Entry.{Entry}
use Rattle.tm_base.specs.States.{queued, is_queued, is_waiting, is_pending}
use Rattle.tm_laws.proofs.WaitersLemmas.{waiting-known}
use Rattle.tm_text.specs.Exercises.{ExerciseView}
use Rattle.tm_replay.specs.declared.phases.Phase.{Phase}
use Rattle.tm_replay.specs.declared.phases.Phase.TheVariants as phase
use Rattle.tm_replay.specs.JointStates.{JointState, ThreadState, ObjectState}
use Rattle.tm_replay.specs.Bars.{bar_of, bar_in, bars_of, waits_in, is_over, is_ended, is_runnable, is_some_queued, has_waiter}
use Rattle.tm_replay.specs.SoundStates.{IsSoundJoint, waits_at}
use Rattle.tm_replay.proofs.SliceLemmas.{found_at}
use Rattle.tm_base.specs.declared.rules.Rules.{Rules}
use Rattle.tm_session.specs.Turns.{AreWaited}
use Rattle.tm_session.specs.Turns.{RunState, Goes, GoesBy, due_stops}
use Rattle.tm_session.proofs.ChoicesLemmas.{bar-at, chosen-runs, runs-known}
use Rattle.tm_session.proofs.Showing.{bar_of-seat}
use Rattle.tm_session.proofs.Stopping.{all-pass, due-waited}
use Rattle.tm_session.proofs.Turning.{IsSoundTurn}

ended-still : (b : Bar) → is_ended b ≡ true → is_runnable b ≡ false
ended-still bar.Ended h = refl
ended-still b h = absurd cc

module _ (j : JointState) (over : is_over (bars_of j) ≡ true) where
  over-ended : (t : ℕ) → 1 ≤ t → t < length j.threads → is_ended (bar_of j t) ≡ true
  over-ended zero low high = absurd (omega (arith, low))
  over-ended (suc t) low high = all-pass is_ended (bars_of j) over t (bar_of j (suc t)) (bar-at j t (omega (arith, high)))

  -- no thread is chosen
  none-chosen : (t : ℕ) → 1 ≤ t → t < length j.threads → is_runnable (bar_of j t) ≡ true → ⊥
  none-chosen t low high runs = false≢true (sym (ended-still (bar_of j t) (over-ended t low high)) ∙ runs)

  -- no thread waits
  none-waits : (t o : ℕ) (s : ThreadState) → 1 ≤ t → t < length j.threads → slice_get j.threads t ≡ Some s → waits_at s.phase o ≡ true → ⊥
  none-waits t o s low high seat waits = go s.phase waits (ap is_ended (sym (bar_of-seat j t s seat)) ∙ over-ended t low high)
    where
      go : (p : Phase) → waits_at p o ≡ true → is_ended (bar_in j t p) ≡ true → ⊥
      go phase.Main w e = false≢true w
      go phase.NotBegun w e = false≢true w
      go phase.Free w e = false≢true w
      go (phase.Ended cut) w e = false≢true w
      go (phase.Waits object) w e = by_test (waits_in (slice_get j.objects object) t) e
        where
          by_test : (v : Bool) → is_ended (if v then bar.Blocked else bar.Granted) ≡ true → ⊥
          by_test true h = false≢true h
          by_test false h = false≢true h

  -- no object has a waiter
  none-waited : (x : ExerciseView) → IsSoundJoint x j → (o : ℕ) → has_waiter (slice_get j.objects o) ≡ true → ⊥
  none-waited x sound o h = by_place (slice_get j.objects o) refl h
    where
      by_head : (b : ObjectState) → slice_get j.objects o ≡ Some b → (t : ℕ) → is_waiting b.view.state t ≡ true → ⊥
      by_head b object_state t waits =
          let placed = sound.objects o b object_state in
          let known = waiting-known b.view.threads b.view.state placed.sound.tidy t waits in
          let inside : t < length j.threads = omega (arith, known.1, placed.threads, sound.thread_count) in
          let seat = found_at j.threads t inside in
          let pending : is_pending b.view.state t ≡ true = rw waits refl in
          none-waits t o seat.0 known.0 inside seat.1 (sym (sound.pending t o seat.0 b known.0 seat.1 object_state) ∙ pending)

      by_queue : (b : ObjectState) → slice_get j.objects o ≡ Some b → (queue : List ℕ) → queued b.view.state.kind_state ≡ queue → is_some_queued queue ≡ true → ⊥
      by_queue b object_state [] e some = false≢true some
      by_queue b object_state (t ∷ queue) e some =
          let first : is_queued (t ∷ queue) t ≡ true = rw (eq-eqb t t refl) refl in
          by_head b object_state t (ap (λ l. is_queued l t) e ∙ first)

      by_place : (p : Option ObjectState) → slice_get j.objects o ≡ p → has_waiter p ≡ true → ⊥
      by_place None e some = false≢true some
      by_place (Some b) e some = by_queue b e (queued b.view.state.kind_state) refl some

-- a run that is over has no next event
pub over-rests : (x : ExerciseView) (rules : Rules) (p q : RunState) (e : Entry) → IsSoundTurn x p → is_over (bars_of p.joint) ≡ true → Goes x rules p e q → ⊥
over-rests x rules p q e sound over goes = go (due_stops p) (due-waited p.joint p.stops sound.waited) goes
  where
    go : (due : List ℕ) → AreWaited p.joint due → GoesBy x rules p due e q → ⊥
    go [] waited m =
        let known = runs-known p.joint e.thread (chosen-runs rules.schedule (bars_of p.joint) p.last q.draw e.thread m.chosen) in
        none-chosen p.joint over e.thread known.0 known.1 known.2
    go (object ∷ stops) waited h = none-waited p.joint over x sound.sound object waited.0
