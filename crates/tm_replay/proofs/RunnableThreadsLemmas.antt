-- What a runnable thread may do next is one that its object can answer.
use Rattle.std.proofs.Common.{◌≡◌, ℕ, ◌<◌, ◌≤◌, Bool, true, false, if◌then◌else◌, ◌||◌, is_some, Some, length, slice_get, refl, ap, sym, ◌∙◌, subst, arith, eq-eqb, ne_eqb}
use Rattle.std.proofs.lemmas.Bool.{false≢true}
use Rattle.std.proofs.lemmas.Option.{slice_get_within}
use Rattle.tm_base.specs.declared.operations.Op.{Op}
use Rattle.tm_base.specs.declared.operations.Op.TheVariants as op
use Rattle.tm_base.specs.declared.kinds.Kind.{Kind}
use Rattle.tm_base.specs.declared.kinds.Kind.TheVariants as kind
use Rattle.tm_base.specs.declared.bars.Bar.TheVariants as bar
use Rattle.tm_base.specs.Fits.{fits, is_call}
use Rattle.tm_base.specs.States.{KindState, ThreadObjectState, grant_of, is_pending, is_waiting}
use Rattle.tm_base.specs.Machines.{ObjectView, IsInTurn, CanStep, is_step}
use Rattle.tm_base.specs.Histories.{CanAnswer}
use Rattle.tm_laws.specs.Tidy.{IsStateOf}
use Rattle.tm_laws.specs.ThreadObjects.{has_begun, has_ended}
use Rattle.tm_text.specs.declared.exercises.Declaration.{Declaration}
use Rattle.tm_text.specs.Exercises.{ExerciseView, IsWellFormed, own_of, thread_of_kind}
use Rattle.tm_text.proofs.Owns.{own_of-found, own_of-below}
use Rattle.tm_replay.specs.declared.phases.Phase.{Phase}
use Rattle.tm_replay.specs.declared.phases.Phase.TheVariants as phase
use Rattle.tm_replay.specs.JointStates.{JointState, ThreadState, ObjectState}
use Rattle.tm_replay.specs.JointSteps.{May}
use Rattle.tm_replay.specs.Bars.{bar_of, bar_in, bar_for, is_runnable, waits_in}
use Rattle.tm_replay.specs.RunnableThreads.{IsAnswerable}
use Rattle.tm_replay.specs.SoundStates.{is_main, IsSoundJoint, IsObjectStateOf, IsAmong, is_begun, is_past, waits_at}
use Rattle.tm_replay.proofs.SliceLemmas.{found_at}
use Rattle.tm_replay.proofs.Moves.{Does, begins, ends, calls, resumes, may-does, asked-called}

-- a call in turn is answered
CanStep-answers : (h : ObjectView) (t : ℕ) (o : Op) → CanStep h t o → CanAnswer h t o
CanStep-answers h t op.Resume may = absurd (let e : false ≡ true = may.step in cc)
CanStep-answers h t op.Stop may = absurd (let e : false ≡ true = may.step in cc)
CanStep-answers h t o may = may

call-steps : (o : Op) → is_call o ≡ true → is_step o ≡ true
call-steps op.Begin e = absurd cc
call-steps (op.End cut) e = absurd cc
call-steps op.Resume e = absurd cc
call-steps op.Stop e = absurd cc
call-steps o e = refl

-- a call is in turn at every object
call-in_turn : (k : Kind) (own : KindState) (t : ℕ) (o : Op) → is_call o ≡ true → IsInTurn k own t o
call-in_turn k own t op.Begin e = absurd cc
call-in_turn k own t (op.End cut) e = absurd cc
call-in_turn k own t op.Resume e = absurd cc
call-in_turn k own t op.Stop e = absurd cc
call-in_turn (kind.Thread n held) (ThreadObjectState started begun ended beginning joiners) t o e = tt
call-in_turn k own t o e = tt

begin-fits : (k : Kind) (t : ℕ) → thread_of_kind k ≡ Some t → fits op.Begin k ≡ true
begin-fits (kind.Thread own held) t e = refl
begin-fits k t e = absurd cc

end-fits : (k : Kind) (t : ℕ) (cut : Bool) → thread_of_kind k ≡ Some t → fits (op.End cut) k ≡ true
end-fits (kind.Thread own held) t cut e = refl
end-fits k t cut e = absurd cc

begin-turn : (k : Kind) (own : KindState) (t : ℕ) → IsStateOf k own → thread_of_kind k ≡ Some t → has_begun own ≡ false → IsInTurn k own t op.Begin
begin-turn (kind.Thread n held) (ThreadObjectState started begun ended beginning joiners) t shape e not = (let same : n ≡ t = cc in sym same, not)
begin-turn (kind.Thread n held) own t shape e not = elim shape [ ]
begin-turn k own t shape e not = absurd cc

end-turn : (k : Kind) (own : KindState) (t : ℕ) (cut : Bool) → IsStateOf k own → thread_of_kind k ≡ Some t → has_begun own ≡ true → has_ended own ≡ false → IsInTurn k own t (op.End cut)
end-turn (kind.Thread n held) (ThreadObjectState started begun ended beginning joiners) t cut shape e begun' not = (let same : n ≡ t = cc in sym same, begun', not)
end-turn (kind.Thread n held) own t cut shape e begun' not = elim shape [ ]
end-turn k own t cut shape e begun' not = absurd cc

module _ (x : ExerciseView) (j : JointState) (formed : IsWellFormed x) (sound : IsSoundJoint x j)
    (t : ℕ) (s : ThreadState) (program : 1 ≤ t) (seat : slice_get j.threads t ≡ Some s)
    (object : ℕ) (o : Op) (does : Does (own_of x.objects t) s.phase s.rest object o) where
  known : t ≤ length x.programs
  known = omega (arith, slice_get_within j.threads t s seat, sound.thread_count)

  -- the event's object is one of the exercise's
  does-within : object < length x.objects
  does-within = go does
    where
      own : object ≡ own_of x.objects t → object < length x.objects
      own e = subst (λ (n : ℕ). n < length x.objects) (sym e) (own_of-below x formed t program known)

      go : Does (own_of x.objects t) s.phase s.rest object o → object < length x.objects
      go (begins p e b) = own e
      go (ends p e cut b) = own e
      go (calls p asked) =
          let stands = sound.threads t s seat in
          let a = asked-called x s.rest.program s.rest.registers object o stands.calls asked in
          slice_get_within x.objects object a.declaration a.found
      go (resumes p b) = subst (λ (q : Phase). IsAmong q (length x.objects)) p (sound.threads t s seat).among

  module _ (b : ObjectState) (object_state : slice_get j.objects object ≡ Some b) (runs : s.phase ≡ phase.Waits object → is_waiting b.view.state t ≡ false) where
    placed : IsObjectStateOf x object b
    placed = sound.objects object b object_state

    kind_is : (d : Declaration) → slice_get x.objects object ≡ Some d → b.view.kind ≡ d.kind
    kind_is d found =
        let e : Some placed.declaration ≡ Some d = sym placed.found ∙ found in
        let same : placed.declaration ≡ d = cc in placed.kind ∙ ap (λ c. c.kind) same

    few : t ≤ b.view.threads
    few = rw placed.threads known

    free : waits_at s.phase object ≡ false → is_pending b.view.state t ≡ false
    free e = sound.pending t object s b program seat object_state ∙ e

    on_own : object ≡ own_of x.objects t → thread_of_kind b.view.kind ≡ Some t
    on_own e =
        let found = own_of-found x formed t program known in
        ap thread_of_kind (kind_is found.0 (ap (slice_get x.objects) e ∙ found.1)) ∙ found.2

    life : object ≡ own_of x.objects t → (has_begun b.view.state.kind_state ≡ is_begun s.phase) × (has_ended b.view.state.kind_state ≡ is_past s.phase)
    life e = sound.life t s b program seat (subst (λ (n : ℕ). slice_get j.objects n ≡ Some b) e object_state)

    -- the object can answer it
    does-answers : CanAnswer b.view t o
    does-answers = go does
      where
        go : Does (own_of x.objects t) s.phase s.rest object o → CanAnswer b.view t o
        go (begins p e is) = subst (CanAnswer b.view t) (sym is) (CanStep-answers b.view t op.Begin (record {
          program = program;
          known = few;
          free = free (ap (λ q. waits_at q object) p);
          fit = begin-fits b.view.kind t (on_own e);
          step = refl;
          in_turn = begin-turn b.view.kind b.view.state.kind_state t placed.sound.kind_state (on_own e) ((life e).0 ∙ ap is_begun p);
        }))
        go (ends p e cut is) = subst (CanAnswer b.view t) (sym is) (CanStep-answers b.view t (op.End cut) (record {
          program = program;
          known = few;
          free = free (ap (λ q. waits_at q object) p);
          fit = end-fits b.view.kind t cut (on_own e);
          step = refl;
          in_turn = end-turn b.view.kind b.view.state.kind_state t cut placed.sound.kind_state (on_own e) ((life e).0 ∙ ap is_begun p) ((life e).1 ∙ ap is_past p);
        }))
        go (calls p asked) =
            let stands = sound.threads t s seat in
            let a = asked-called x s.rest.program s.rest.registers object o stands.calls asked in
            CanStep-answers b.view t o (record {
              program = program;
              known = few;
              free = free (ap (λ q. waits_at q object) p);
              fit = ap (fits o) (kind_is a.declaration a.found) ∙ a.fit;
              step = call-steps o a.call;
              in_turn = call-in_turn b.view.kind b.view.state.kind_state t o a.call;
            })
        go (resumes p is) =
            let pending : is_pending b.view.state t ≡ true = sound.pending t object s b program seat object_state ∙ ap (λ q. waits_at q object) p ∙ eq-eqb object object refl in
            subst (CanAnswer b.view t) (sym is) (sym (ap (λ w. w || is_some (grant_of b.view.state t)) (runs p)) ∙ pending)

-- a runnable thread's call doesn't wait ungranted
module _ (j : JointState) (t : ℕ) (s : ThreadState) (seat : slice_get j.threads t ≡ Some s) (runs : is_runnable (bar_of j t) ≡ true) where
  runnable-granted : (object : ℕ) (b : ObjectState) → slice_get j.objects object ≡ Some b → s.phase ≡ phase.Waits object → is_waiting b.view.state t ≡ false
  runnable-granted object b object_state p = by_test (is_waiting b.view.state t) refl
    where
      by_test : (v : Bool) → is_waiting b.view.state t ≡ v → is_waiting b.view.state t ≡ false
      by_test false h = h
      by_test true h =
          let waits : waits_in (slice_get j.objects object) t ≡ true = ap (λ o. waits_in o t) object_state ∙ h in
          let blocked : bar_of j t ≡ bar.Blocked = ap (bar_for j t) seat ∙ ap (bar_in j t) p ∙ ap (λ v. if v then bar.Blocked else bar.Granted) waits in
          absurd (false≢true (sym (ap is_runnable blocked) ∙ runs))

pub runnable-answered : (x : ExerciseView) (j : JointState) (t : ℕ) (s : ThreadState) (object : ℕ) (o : Op)
    → IsWellFormed x → IsSoundJoint x j → 1 ≤ t → slice_get j.threads t ≡ Some s → is_runnable (bar_of j t) ≡ true → May x t s object o
    → (object < length x.objects) × IsAnswerable j t object o
runnable-answered x j t s object o formed sound program seat runs may =
    let plain : is_main s.phase ≡ false = (sound.threads t s seat).main ∙ ne_eqb t 0 (λ e. omega (arith, e, program)) in
    let does = may-does (own_of x.objects t) s.phase s.rest object o plain may in
    let within : object < length x.objects = does-within x j formed sound t s program seat object o does in
    let there = found_at j.objects object (omega (arith, within, sound.object_count)) in (
      within,
      record {
        object_state = there.0;
        found = there.1;
        answers = does-answers x j formed sound t s program seat object o does there.0 there.1 (runnable-granted j t s seat runs object there.0 there.1);
      },
    )
