-- The illegal event stands in the trace, and what was expected is of the exercise, since the joint state before the
-- event is sound.
use Rattle.std.proofs.Common.{◌≡◌, ◌≢◌, ℕ, ◌<◌, ◌≤◌, Bool, true, false, ◌==◌, ◌⊎◌, ⊎_elim, cond, List, length, Some, None, slice_get, Contains, refl, sym, ap, ◌∙◌, subst, arith}
use Rattle.std.proofs.lemmas.Bool.{cases_eq, false≢true}
use Rattle.std.proofs.lemmas.Option.{slice_get_within}
use Rattle.std.proofs.lemmas.List.Sorted.{Contains-permutation, IsPermutation-sym}
use Rattle.tm_base.specs.declared.operations.Op.{Op}
use Rattle.tm_base.specs.declared.operations.Op.TheVariants as op
use Rattle.tm_base.specs.declared.replies.Reply.{Reply}
use Rattle.tm_base.specs.declared.replies.Reply.TheVariants as reply
use Rattle.tm_base.specs.declared.asks.Ask.{Ask}
use Rattle.tm_base.specs.declared.asks.Ask.TheVariants as ask
use Rattle.tm_base.specs.declared.events.Entry.{Entry}
use Rattle.tm_base.specs.States.{State}
use Rattle.tm_base.specs.Machines.{ObjectView}
use Rattle.tm_base.specs.Histories.{Lawful}
use Rattle.tm_laws.specs.Tidy.{IsSound}
use Rattle.tm_laws.proofs.Giving.{Lawful-gives}
use Rattle.tm_laws.proofs.RunsLemmas.{Leads-keeps}
use Rattle.tm_programs.specs.Calls.{AllCallsPass}
use Rattle.tm_programs.specs.Programs.{Rest, is_stopped, next_ask}
use Rattle.tm_text.specs.Exercises.{ExerciseView, IsWellFormed, is_call_on, own_of}
use Rattle.tm_text.proofs.Owns.{own_of-below}
use Rattle.tm_timeline.specs.Rows.{NamesThread}
use Rattle.tm_timeline.specs.TraceableEvents.{IsTraceable}
use Rattle.tm_merge.specs.declared.holds.Missing.TheVariants as missing
use Rattle.tm_replay.specs.declared.phases.Phase.{Phase}
use Rattle.tm_replay.specs.declared.phases.Phase.TheVariants as phase
use Rattle.tm_replay.specs.JointStates.{JointState, ThreadState, ObjectState, start}
use Rattle.tm_replay.specs.JointSteps.{IsJointRun, JointStep}
use Rattle.tm_replay.specs.SoundStates.{is_main, IsAmong, IsSoundJoint}
use Rattle.tm_replay.proofs.JointStartLemmas.{IsSoundJoint-start}
use Rattle.tm_replay.proofs.Moves.{asked-called}
use Rattle.tm_replay.proofs.Soundness.{IsSoundJoint-step}
use Rattle.tm_joint.specs.declared.asked.Asked.{Asked}
use Rattle.tm_joint.specs.declared.asked.Asked.TheVariants as asked
use Rattle.tm_joint.specs.declared.refusals.Cause.{Cause}
use Rattle.tm_joint.specs.declared.refusals.Cause.TheVariants as cause
use Rattle.tm_joint.specs.declared.refusals.Illegal.{Illegal}
use Rattle.tm_joint.specs.Asking.{asked_by, asked_in}
use Rattle.tm_joint.specs.Refusals.{IsCause, Refuses}
use Rattle.tm_order.proofs.Elements.{Contains-middle}
use Rattle.tm_trace.specs.Judging.{IsFirstBreak}
use Rattle.tm_trace.specs.Replaying.{IsFirstIllegal}
use Rattle.tm_trace.specs.Traces.{AreTraceable}
use Rattle.tm_trace.proofs.MergingLemmas.{whole-shown}
use Rattle.tm_refusal_lines.specs.KnownNames.{IsAskedOf, IsCauseOf, IsIllegalOf}

-- the machine grants threads that have a program
reply-names : (x : ExerciseView) (h : ObjectView) (t : ℕ) (o : Op) (r : Reply) (s' : State) → IsSound h → h.threads ≡ length x.programs → Lawful h t o r s' → NamesThread x r
reply-names x h t o (reply.Gave u) s' sound threads lawful =
    let known = Lawful-gives h t o u s' sound lawful in
    record { program = known.0; known = omega (arith, known.1, threads) }
reply-names x h t o r s' sound threads lawful = tt

-- what is asked of a program whose calls fit
ask-names : (x : ExerciseView) (rest : Rest) (a : Ask) → AllCallsPass (is_call_on x.objects) rest.program → next_ask rest.program rest.registers ≡ a → IsAskedOf x (asked_by (Some a))
ask-names x rest (ask.Call object o) fit e =
    let asked = asked-called x rest.program rest.registers object o fit e in
    slice_get_within x.objects object asked.declaration asked.found
ask-names x rest ask.Over fit e = tt

free-names : (x : ExerciseView) (rest : Rest) (stopped : Bool) → AllCallsPass (is_call_on x.objects) rest.program
    → IsAskedOf x (asked_by (cond stopped None (Some (next_ask rest.program rest.registers))))
free-names x rest true fit = tt
free-names x rest false fit = ask-names x rest (next_ask rest.program rest.registers) fit refl

-- what a thread with this number may do
may-names : (x : ExerciseView) (t : ℕ) (p : Phase) (rest : Rest) (next : Asked) → IsWellFormed x → t ≤ length x.programs → is_main p ≡ (t == 0) → AllCallsPass (is_call_on x.objects) rest.program
    → asked_in (own_of x.objects t) p rest ≡ Some next → IsAskedOf x next
may-names x t phase.Main rest next formed known main fit h = let same : asked.Stop ≡ next = cc in subst (IsAskedOf x) same tt
may-names x t phase.NotBegun rest next formed known main fit h =
    let same : asked.Call (own_of x.objects t) op.Begin ≡ next = cc in
    let program : 1 ≤ t = ⊎_elim
    (λ (zeroth : t ≡ 0). absurd (false≢true (main ∙ ap (λ n. n == 0) zeroth)))
    (λ (other : t ≢ 0). omega (arith, other))
    (cases_eq t 0) in
    subst (IsAskedOf x) same (own_of-below x formed t program known)
may-names x t phase.Free rest next formed known main fit h =
    let same : asked_by (cond (is_stopped rest.last) None (Some (next_ask rest.program rest.registers))) ≡ next = cc in
    subst (IsAskedOf x) same (free-names x rest (is_stopped rest.last) fit)
may-names x t (phase.Waits at) rest next formed known main fit h = absurd cc
may-names x t (phase.Ended cut) rest next formed known main fit h = absurd cc

module _ (x : ExerciseView) (formed : IsWellFormed x) (j : JointState) (sound : IsSoundJoint x j) (e : Entry) (said : IsTraceable x e)
    (s : ThreadState) (thread : slice_get j.threads e.thread ≡ Some s) (b : ObjectState) (object : slice_get j.objects e.object ≡ Some b) where
  cause-names : (c : Cause) → IsCause x s b e c → IsCauseOf x c
  cause-names cause.Ended h = tt
  cause-names (cause.Place (missing.Thread t p)) h = subst (λ (n : ℕ). n ≤ length x.programs) (sym h.1.0) said.thread
  cause-names (cause.Place (missing.Object o at)) h = subst (λ (n : ℕ). n < length x.objects) (sym h.1.1) said.object
  cause-names (cause.Stamp next) h = tt
  cause-names (cause.Waiting at) h = subst (λ (p : Phase). IsAmong p (length x.objects)) h.1 (sound.threads e.thread s thread).among
  cause-names (cause.NotAsked next) h =
      let stands = sound.threads e.thread s thread in
      may-names x e.thread s.phase s.rest next formed said.thread stands.main stands.calls h.1
  cause-names cause.StoppedAlready h = tt
  cause-names (cause.Reply r) h =
      let placed = sound.objects e.object b object in
      reply-names x b.view e.thread e.op r h.1.state placed.sound placed.threads h.1.lawful

-- the joint state that a run leaves is sound
run-sound : (x : ExerciseView) (es : List Entry) (j : JointState) → IsWellFormed x → IsJointRun x es j → IsSoundJoint x j
run-sound x es j formed run =
    Leads-keeps (JointStep x) (IsSoundJoint x) (λ p e q holds step. IsSoundJoint-step x p q e formed holds step) es (start x) j (IsSoundJoint-start x formed) run

module _ (x : ExerciseView) (es : List Entry) (i : Illegal) (formed : IsWellFormed x) (traceable : AreTraceable x es) (broken : IsFirstBreak x es i) where
  abbrev first : IsFirstIllegal x broken.merger.shown i
  first = broken.illegal

  abbrev refuses : Refuses x first.joint first.entry i.cause
  refuses = first.illegal.1

  shown : Contains broken.merger.shown first.entry
  shown = subst (λ (l : List Entry). Contains l first.entry) (sym first.parts) (Contains-middle first.prefix first.back first.entry)

  said : IsTraceable x first.entry
  said = traceable first.entry (Contains-permutation broken.merger.shown es first.entry (IsPermutation-sym es broken.merger.shown (whole-shown x es broken.merger broken.merged)) shown)

  names : IsCauseOf x i.cause
  names = cause-names x formed first.joint (run-sound x first.prefix first.joint formed first.run) first.entry said
      refuses.thread_state refuses.thread refuses.object_state refuses.object i.cause refuses.first

  pub illegal-names : IsIllegalOf x i
  illegal-names = (subst (IsTraceable x) (sym first.illegal.0) said, names)
