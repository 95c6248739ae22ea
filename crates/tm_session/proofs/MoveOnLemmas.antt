-- What a thread or `main` does next is a joint step.
use Rattle.std.proofs.Common.{◌≡◌, ℕ, ◌<◌, ◌≤◌, Bool, true, false, length, Option, Some, None, slice_get, refl, ap, sym, ◌∙◌, subst, arith, ne_eqb, eq-eqb, ◌==◌}
use Rattle.std.proofs.lemmas.Bool.{false≢true}
use Rattle.tm_base.specs.declared.operations.Op.{Op}
use Rattle.tm_base.specs.declared.operations.Op.TheVariants as op
use Rattle.tm_base.specs.declared.events.Entry.{Entry}
use Rattle.tm_base.specs.States.{queued}
use Rattle.tm_base.specs.Tickets.{IsReady}
use Rattle.tm_text.specs.Exercises.{ExerciseView, IsWellFormed, own_of}
use Rattle.tm_replay.specs.declared.phases.Phase.{Phase}
use Rattle.tm_replay.specs.declared.phases.Phase.TheVariants as phase
use Rattle.tm_replay.specs.JointStates.{JointState, ThreadState, ObjectState}
use Rattle.tm_replay.specs.JointSteps.{JointStep, May, MayIn}
use Rattle.tm_replay.specs.Bars.{bar_of, bar_in, bars_of, is_runnable, is_some_queued, has_waiter}
use Rattle.tm_replay.specs.SoundStates.{IsSoundJoint, is_main}
use Rattle.tm_replay.specs.RunnableThreads.{IsAnswerable}
use Rattle.tm_replay.proofs.SliceLemmas.{found_at}
use Rattle.tm_replay.proofs.RunnableThreadsLemmas.{runnable-answered}
use Rattle.tm_replay.proofs.Soundness.{is_main-phase}
use Rattle.tm_replay.proofs.Moves.{Does, may-does, asked-called}
use Rattle.tm_session.specs.declared.next_calls.NextCall.{NextCall}
use Rattle.tm_joint.specs.Readings.{waits_in_phase}
use Rattle.tm_session.specs.NextCalls.{GoesOn, AsksCalls}
use Rattle.tm_session.specs.Records.{IsEarly, CanPerform, Performs}
use Rattle.tm_session.specs.Choices.{chosen_thread}
use Rattle.tm_session.specs.Turns.{KeepsLimit}
use Rattle.tm_session.proofs.ChoicesLemmas.{chosen-runs, runs-known}
use Rattle.tm_session.proofs.TicketsLemmas.{does-ready}
use Rattle.tm_session.proofs.Showing.{bar_of-seat}

-- an event that was made and may be made is a joint step
abbrev pub performed : (x : ExerciseView) (j k : JointState) (t : ℕ) (w : NextCall) (e : Entry) (p : Performs j t w e k) → May x e.thread p.happens.thread_state e.object e.op → JointStep x j e k
performed x j k t w e p may = record { happens = p.happens; may = may }

-- the object is there and can answer, and the thread is ready
pub record ActsAt (j : JointState) (t : ℕ) (s : ThreadState) (w : NextCall) : Type 0 where
  pub answerable : IsAnswerable j t w.object w.op
  pub ready : IsReady (waits_in_phase s.phase) w.object w.op

can_perform : (j : JointState) (t : ℕ) (s : ThreadState) (w : NextCall) → IsEarly j → slice_get j.threads t ≡ Some s → is_main s.phase ≡ (t == 0) → ActsAt j t s w → CanPerform j t w
can_perform j t s w early seat main a = record {
  early = early;
  thread_state = s;
  thread = seat;
  main = main;
  object_state = a.answerable.object_state;
  object = a.answerable.found;
  answers = a.answerable.answers;
  ready = a.ready;
}

module _ (x : ExerciseView) (j : JointState) (formed : IsWellFormed x) (sound : IsSoundJoint x j) where
  -- a thread that was chosen
  pub record IsChosen (t : ℕ) : Type 0 where
    pub program : 1 ≤ t
    pub known : t ≤ length x.programs
    pub within : t < length j.threads
    pub runs : is_runnable (bar_of j t) ≡ true

  pub chosen : (schedule last draw t : ℕ) → chosen_thread schedule (bars_of j) last draw ≡ Some t → IsChosen t
  chosen schedule last draw t h =
      let k = runs-known j t (chosen-runs schedule (bars_of j) last draw t h) in
      record { program = k.0; known = omega (arith, k.1, sound.thread_count); within = k.1; runs = k.2 }

  module _ (t : ℕ) (s : ThreadState) (c : IsChosen t) (seat : slice_get j.threads t ≡ Some s) where
    plain : is_main s.phase ≡ false
    plain = (sound.threads t s seat).main ∙ ne_eqb t 0 (λ e. omega (arith, e, c.program))

    runnable : is_runnable (bar_in j t s.phase) ≡ true
    runnable = ap is_runnable (sym (bar_of-seat j t s seat)) ∙ c.runs

    -- it hasn't ended
    pub chosen-goes : GoesOn s.phase
    chosen-goes = go s.phase plain runnable
      where
        go : (p : Phase) → is_main p ≡ false → is_runnable (bar_in j t p) ≡ true → GoesOn p
        go phase.Main m r = absurd (false≢true (sym m))
        go phase.NotBegun m r = tt
        go phase.Free m r = tt
        go (phase.Waits o) m r = tt
        go (phase.Ended cut) m r = absurd (false≢true r)

    -- what it asks is a call
    pub chosen-asks : AsksCalls s.rest
    chosen-asks object o asked =
        let stands = sound.threads t s seat in
        (asked-called x s.rest.program s.rest.registers object o stands.calls asked).call

    module _ (w : NextCall) (may : MayIn (own_of x.objects t) s.phase s.rest w.object w.op) where
      does : Does (own_of x.objects t) s.phase s.rest w.object w.op
      does = may-does (own_of x.objects t) s.phase s.rest w.object w.op plain may

      -- the thread can make it there
      pub chosen-acts : ActsAt j t s w
      chosen-acts = record {
        answerable = (runnable-answered x j t s w.object w.op formed sound c.program seat c.runs may).1;
        ready = does-ready (own_of x.objects t) s.phase s.rest w.object w.op chosen-asks does;
      }

      pub chosen-performs : IsEarly j → CanPerform j t w
      chosen-performs early = can_perform j t s w early seat (sound.threads t s seat).main chosen-acts

      -- and its event is a joint step, within its limit
      pub chosen-step : (k : JointState) (e : Entry) → Performs j t w e k → (limit : ℕ) → KeepsLimit limit s w.op → (step : JointStep x j e k) × KeepsLimit limit step.happens.thread_state e.op
      chosen-step k e p limit keeps =
          let old : ThreadState = p.happens.thread_state in
          let s' : Some old ≡ Some s = sym p.happens.thread ∙ ap (slice_get j.threads) p.by ∙ seat in
          let same : old ≡ s = cc in
          let may' : MayIn (own_of x.objects e.thread) old.phase old.rest e.object e.op =
          subst (λ (u : ℕ). MayIn (own_of x.objects u) old.phase old.rest e.object e.op) (sym p.by)
          (subst (λ (u : ThreadState). MayIn (own_of x.objects t) u.phase u.rest e.object e.op) (sym same)
          (subst (λ (u : ℕ). MayIn (own_of x.objects t) s.phase s.rest u e.op) (sym p.on)
          (subst (λ (u : Op). MayIn (own_of x.objects t) s.phase s.rest w.object u) (sym p.does) may))) in
          let within : KeepsLimit limit old e.op =
          subst (λ (u : ThreadState). KeepsLimit limit u e.op) (sym same) (subst (λ (u : Op). KeepsLimit limit s u) (sym p.does) keeps) in
          (performed x j k t w e p may', within)

  -- `main` can stop an object that has a waiter
  pub record IsHalting (object : ℕ) : Type 0 where
    pub thread_state : ThreadState
    pub thread : slice_get j.threads 0 ≡ Some thread_state
    pub main : thread_state.phase ≡ phase.Main
    pub acts : ActsAt j 0 thread_state (record { object = object; op = op.Stop })

  pub halting : (object : ℕ) → has_waiter (slice_get j.objects object) ≡ true → IsHalting object
  halting object waited =
      let seat = found_at j.threads 0 (omega (arith, sound.thread_count)) in
      let object_state = by_place (slice_get j.objects object) refl waited in
      let main : seat.0.phase ≡ phase.Main = is_main-phase seat.0.phase ((sound.threads 0 seat.0 seat.1).main ∙ eq-eqb 0 0 refl) in
      record {
        thread_state = seat.0;
        thread = seat.1;
        main = main;
        acts = record {
          answerable = record {
            object_state = object_state.0;
            found = object_state.1;
            answers = (refl, running object_state.0 object_state.1 object_state.2);
          };
          ready = ap waits_in_phase main;
        };
      }
    where
      by_place : (o : Option ObjectState) → slice_get j.objects object ≡ o → has_waiter o ≡ true → (b : ObjectState) × (slice_get j.objects object ≡ Some b) × (is_some_queued (queued b.view.state.kind_state) ≡ true)
      by_place None e h = absurd (false≢true h)
      by_place (Some b) e h = (b, e, h)

      running : (b : ObjectState) → slice_get j.objects object ≡ Some b → is_some_queued (queued b.view.state.kind_state) ≡ true → b.view.state.stopped ≡ false
      running b e h = by_test b.view.state.stopped refl
        where
          by_test : (v : Bool) → b.view.state.stopped ≡ v → b.view.state.stopped ≡ false
          by_test false n = n
          by_test true y = absurd (false≢true (sym (ap is_some_queued ((sound.objects object b e).sound.tidy.quiet y)) ∙ h))

  pub can_halt : (object : ℕ) → IsEarly j → has_waiter (slice_get j.objects object) ≡ true → CanPerform j 0 (record { object = object; op = op.Stop })
  can_halt object early waited =
      let h = halting object waited in
      can_perform j 0 h.thread_state (record { object = object; op = op.Stop }) early h.thread (sound.threads 0 h.thread_state h.thread).main h.acts

  pub halted-step : (k : JointState) (object : ℕ) (e : Entry) → Performs j 0 (record { object = object; op = op.Stop }) e k → JointStep x j e k
  halted-step k object e p =
      let old : ThreadState = p.happens.thread_state in
      let seat : slice_get j.threads 0 ≡ Some old = sym (ap (slice_get j.threads) p.by) ∙ p.happens.thread in
      let main : old.phase ≡ phase.Main = is_main-phase old.phase ((sound.threads 0 old seat).main ∙ eq-eqb 0 0 refl) in
      performed x j k 0 (record { object = object; op = op.Stop }) e p
      (subst (λ (q : Phase). MayIn (own_of x.objects e.thread) q old.rest e.object e.op) (sym main) p.does)
