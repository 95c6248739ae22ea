-- What a replayer knows of an event's thread and object.
use Rattle.std.proofs.Common.{◌≡◌, ◌≢◌, ℕ, ◌<◌, ◌≤◌, true, false, not, is_some, if◌then◌else◌, ◌==◌, ⊎_elim, length, Option, Some, None, slice_get, refl, ap, sym, ◌∙◌, subst, arith, eqb-true, eq-eqb}
use Rattle.std.proofs.lemmas.Bool.{cases_Bool, cases_eq, false≢true}
use Rattle.std.proofs.lemmas.Option.{slice_get_within}
use Rattle.tm_base.specs.declared.bars.Bar.TheVariants as bar
use Rattle.tm_base.specs.declared.operations.Op.TheVariants as op
use Rattle.tm_base.specs.declared.replies.Reply.{Reply}
use Rattle.tm_base.specs.declared.events.Entry.{Entry}
use Rattle.tm_base.specs.States.{State, grant_of, is_pending, is_waiting}
use Rattle.tm_base.specs.Histories.{CanAnswer}
use Rattle.tm_laws.specs.Tidy.{IsSound, IsTidy}
use Rattle.tm_laws.proofs.WaitersLemmas.{pending-waits, waiting-ungranted}
use Rattle.tm_text.specs.Exercises.{ExerciseView, IsWellFormed, own_of}
use Rattle.tm_replay.specs.declared.phases.Phase.{Phase}
use Rattle.tm_replay.specs.declared.phases.Phase.TheVariants as phase
use Rattle.tm_replay.specs.JointStates.{JointState, ThreadState, ObjectState}
use Rattle.tm_replay.specs.JointSteps.{May, MayIn}
use Rattle.tm_replay.specs.Bars.{bar_for, bar_in, bar_of, is_runnable, waits_in}
use Rattle.tm_replay.specs.SoundStates.{IsAmong, IsSoundJoint, is_main, is_past, waits_at}
use Rattle.tm_replay.proofs.RunnableThreadsLemmas.{runnable-answered}
use Rattle.tm_replay.proofs.Soundness.{is_main-phase}
use Rattle.tm_joint.specs.Judging.{IsGranted}
use Rattle.tm_joint.specs.Readings.{waits_in_phase, waits_of}

-- a thread that waits somewhere has that phase
waits-phase : (p : Phase) (object : ℕ) → waits_in_phase p ≡ Some object → p ≡ phase.Waits object
waits-phase (phase.Waits at) object e = let same : at ≡ object = cc in ap phase.Waits same
waits-phase phase.Main object e = absurd cc
waits-phase phase.NotBegun object e = absurd cc
waits-phase phase.Free object e = absurd cc
waits-phase (phase.Ended cut) object e = absurd cc

pub waits-seat : (found : Option ThreadState) (object : ℕ) → waits_of found ≡ Some object → (s : ThreadState) × (found ≡ Some s) × (s.phase ≡ phase.Waits object)
waits-seat None object e = absurd cc
waits-seat (Some s) object e = (s, refl, waits-phase s.phase object e)

-- a granted call doesn't wait
pub granted-free : (threads : ℕ) (s : State) (t : ℕ) (r : Reply) → IsTidy threads s → grant_of s t ≡ Some r → is_waiting s t ≡ false
granted-free threads s t r tidy granted = ⊎_elim
    (λ (h : is_waiting s t ≡ true). let both : None ≡ Some r = sym (waiting-ungranted threads s tidy t h) ∙ granted in absurd cc)
    (λ h. h) (cases_Bool (is_waiting s t))

-- a pending call waits exactly where no reply was granted
pub blocked : (threads : ℕ) (s : State) (t : ℕ) → IsTidy threads s → is_pending s t ≡ true → not (is_some (grant_of s t)) ≡ is_waiting s t
blocked threads s t tidy pending = ⊎_elim
    (λ (waits : is_waiting s t ≡ true). ap (λ o. not (is_some o)) (waiting-ungranted threads s tidy t waits) ∙ sym waits)
    (λ (free : is_waiting s t ≡ false). by_grant (grant_of s t) refl free) (cases_Bool (is_waiting s t))
  where
    by_grant : (g : Option Reply) → grant_of s t ≡ g → is_waiting s t ≡ false → not (is_some (grant_of s t)) ≡ is_waiting s t
    by_grant None none free = absurd (false≢true (sym free ∙ pending-waits s t pending none))
    by_grant (Some r) some free = ap (λ o. not (is_some o)) some ∙ sym free

-- a thread that waits isn't `main`
waits-plain : (p : Phase) (object : ℕ) → p ≡ phase.Waits object → is_main p ≡ false
waits-plain p object e = ap is_main e

module _ (x : ExerciseView) (j : JointState) (formed : IsWellFormed x) (sound : IsSoundJoint x j)
    (t : ℕ) (s : ThreadState) (thread : slice_get j.threads t ≡ Some s) where
  pub main-zero : is_main s.phase ≡ (t == 0)
  main-zero = (sound.threads t s thread).main

  pub program : is_main s.phase ≡ false → 1 ≤ t
  program plain = ⊎_elim
      (λ (zero' : t ≡ 0). absurd (false≢true (sym plain ∙ main-zero ∙ eq-eqb t 0 zero')))
      (λ (ne : t ≢ 0). omega (arith, ne)) (cases_eq t 0)

  pub known : t ≤ length x.programs
  known = omega (arith, slice_get_within j.threads t s thread, sound.thread_count)

  -- where it waits there is an object
  pub waits-within : (o : ℕ) → s.phase ≡ phase.Waits o → o < length j.objects
  waits-within o waits =
      omega (arith, subst (λ (p : Phase). IsAmong p (length x.objects)) waits (sound.threads t s thread).among, sound.object_count)

  module _ (o : ℕ) (b : ObjectState) (object : slice_get j.objects o ≡ Some b) where
    pub sound-view : IsSound b.view
    sound-view = (sound.objects o b object).sound

    -- the call of a thread that waits at the object is pending there
    pub pending-here : s.phase ≡ phase.Waits o → is_pending b.view.state t ≡ true
    pending-here waits =
        sound.pending t o s b (program (waits-plain s.phase o waits)) thread object ∙ ap (λ (p : Phase). waits_at p o) waits ∙ eq-eqb o o refl

    -- a thread that hasn't ended, and whose call was granted where it waits, is runnable
    runs : (e : Entry) → e.thread ≡ t → e.object ≡ o → is_past s.phase ≡ false → IsGranted s b e → is_runnable (bar_of j t) ≡ true
    runs e by on goes_on granted = ap (λ q. is_runnable (bar_for j t q)) thread ∙ go s.phase refl goes_on
      where
        blocked : (at : ℕ) → s.phase ≡ phase.Waits at → is_waiting b.view.state t ≡ false
        blocked at waits = ⊎_elim
            (λ (h : is_waiting b.view.state t ≡ true).
            absurd ((granted at waits).1 (waiting-ungranted b.view.threads b.view.state (sound-view).tidy e.thread (ap (is_waiting b.view.state) by ∙ h))))
            (λ h. h) (cases_Bool (is_waiting b.view.state t))

        go : (p : Phase) → s.phase ≡ p → is_past p ≡ false → is_runnable (bar_in j t p) ≡ true
        go phase.Main is h = refl
        go phase.NotBegun is h = refl
        go phase.Free is h = refl
        go (phase.Waits at) is h =
            let here : at ≡ o = sym (granted at is).0.0 ∙ on in
            let free : waits_in (slice_get j.objects at) t ≡ false = ap (λ n. waits_in (slice_get j.objects n) t) here ∙ ap (λ q. waits_in q t) object ∙ blocked at is in
            ap (λ v. is_runnable (if v then bar.Blocked else bar.Granted)) free
        go (phase.Ended cut) is h = absurd (false≢true (sym h))

    -- what the thread may do the object can answer
    pub can_answer : (e : Entry) → e.thread ≡ t → e.object ≡ o → is_past s.phase ≡ false → IsGranted s b e → May x t s o e.op
        → (e.op ≡ op.Stop → b.view.state.stopped ≡ false) → CanAnswer b.view t e.op
    can_answer e by on goes_on granted may running = ⊎_elim main_case plain_case (cases_Bool (is_main s.phase))
      where
        main_case : is_main s.phase ≡ true → CanAnswer b.view t e.op
        main_case main =
            let stops : e.op ≡ op.Stop = subst (λ (p : Phase). MayIn (own_of x.objects t) p s.rest o e.op) (is_main-phase s.phase main) may in
            subst (CanAnswer b.view t) (sym stops) (eqb-true t 0 (sym main-zero ∙ main), running stops)

        plain_case : is_main s.phase ≡ false → CanAnswer b.view t e.op
        plain_case plain =
            let answer = (runnable-answered x j t s o e.op formed sound (program plain) thread (runs e by on goes_on granted) may).1 in
            let both : Some answer.object_state ≡ Some b = sym answer.found ∙ object in
            let same : answer.object_state ≡ b = cc in
            subst (λ (c : ObjectState). CanAnswer c.view t e.op) same answer.answers
