-- An event that is refused is no joint step.
use Rattle.std.proofs.Common.{◌≡◌, ℕ, suc, max, true, Some, None, ⊎_elim, ap, sym, ◌∙◌, subst}
use Rattle.std.proofs.lemmas.Bool.{false≢true}
use Rattle.tm_base.specs.declared.operations.Op.{Op}
use Rattle.tm_base.specs.declared.operations.Op.TheVariants as op
use Rattle.tm_base.specs.declared.events.Entry.{Entry}
use Rattle.tm_base.specs.States.{grant_of}
use Rattle.tm_base.specs.Histories.{Lawful}
use Rattle.tm_laws.proofs.Determined.{Lawful-reply}
use Rattle.tm_text.specs.Exercises.{ExerciseView, own_of}
use Rattle.tm_replay.specs.declared.phases.Phase.{Phase}
use Rattle.tm_replay.specs.declared.phases.Phase.TheVariants as phase
use Rattle.tm_replay.specs.JointStates.{JointState, ThreadState, ObjectState}
use Rattle.tm_replay.specs.JointSteps.{JointStep, May, MayIn}
use Rattle.tm_replay.specs.SoundStates.{is_past}
use Rattle.tm_joint.specs.declared.refusals.Cause.{Cause}
use Rattle.tm_joint.specs.declared.refusals.Cause.TheVariants as cause
use Rattle.tm_merge.specs.declared.holds.Missing.TheVariants as missing
use Rattle.tm_joint.specs.Refusals.{IsCause, IsNoResume, Refuses}

-- a thread that has ended may do nothing
past-idle : (own : ℕ) (p : Phase) (s : ThreadState) (object : ℕ) (o : Op) → is_past p ≡ true → MayIn own p s.rest object o → ⊥
past-idle own (phase.Ended cut) s object o past may = may
past-idle own phase.Main s object o past may = absurd (false≢true past)
past-idle own phase.NotBegun s object o past may = absurd (false≢true past)
past-idle own phase.Free s object o past may = absurd (false≢true past)
past-idle own (phase.Waits at) s object o past may = absurd (false≢true past)

module _ (x : ExerciseView) (j k : JointState) (e : Entry) (s : ThreadState) (b : ObjectState) (step : JointStep x j e k)
    (thread : step.happens.thread_state ≡ s) (object : step.happens.object_state ≡ b) where
  may : May x e.thread s e.object e.op
  may = subst (λ (r : ThreadState). May x e.thread r e.object e.op) thread step.may

  lawful : Lawful b.view e.thread e.op e.reply step.happens.state
  lawful = subst (λ (c : ObjectState). Lawful c.view e.thread e.op e.reply step.happens.state) object step.happens.lawful

  place : e.place ≡ s.next
  place = step.happens.place ∙ ap (λ r. r.next) thread

  resumed_only : (at : ℕ) → s.phase ≡ phase.Waits at → IsNoResume b e at → ⊥
  resumed_only at waits none =
      let resumes : (e.object ≡ at) × (e.op ≡ op.Resume) = subst (λ (p : Phase). MayIn (own_of x.objects e.thread) p s.rest e.object e.op) waits may in
      let granted = (subst (λ (o : Op). Lawful b.view e.thread o e.reply step.happens.state) resumes.1 lawful).granted in
      ⊎_elim (λ no. no resumes) (λ (ungranted : grant_of b.view.state e.thread ≡ None). let both : None ≡ Some e.reply = sym ungranted ∙ granted in absurd cc) none

  IsCause-no_step : (c : Cause) → IsCause x s b e c → ⊥
  IsCause-no_step cause.Ended past = past-idle (own_of x.objects e.thread) s.phase s e.object e.op past may
  IsCause-no_step (cause.Place (missing.Thread t p)) h = h.1.2 (place ∙ sym h.1.1)
  IsCause-no_step (cause.Place (missing.Object o at)) h =
      h.1.3 (step.happens.at ∙ ap (λ (c : ObjectState). suc c.at) object ∙ sym h.1.2)
  IsCause-no_step (cause.Stamp next) h =
      h.2 (step.happens.stamp ∙ ap (λ (r : ThreadState). suc (max r.stamp step.happens.object_state.stamp)) thread
      ∙ ap (λ (c : ObjectState). suc (max s.stamp c.stamp)) object ∙ sym h.1)
  IsCause-no_step (cause.Waiting at) h = resumed_only at h.1 h.2
  IsCause-no_step (cause.NotAsked next) h = h.2 may
  IsCause-no_step cause.StoppedAlready h =
      false≢true (sym (subst (λ (o : Op). Lawful b.view e.thread o e.reply step.happens.state) h.1 lawful).running ∙ h.2)
  IsCause-no_step (cause.Reply r) h =
      h.2 (Lawful-reply b.view e.thread e.op e.reply r step.happens.state h.1.state lawful h.1.lawful)

pub Refuses-no_step : (x : ExerciseView) (j k : JointState) (e : Entry) (c : Cause) → Refuses x j e c → JointStep x j e k → ⊥
Refuses-no_step x j k e c refused step =
    let thread : Some step.happens.thread_state ≡ Some refused.thread_state = sym step.happens.thread ∙ refused.thread in
    let object : Some step.happens.object_state ≡ Some refused.object_state = sym step.happens.object ∙ refused.object in
    let same_thread : step.happens.thread_state ≡ refused.thread_state = cc in
    let same_object : step.happens.object_state ≡ refused.object_state = cc in
    IsCause-no_step x j k e refused.thread_state refused.object_state step same_thread same_object c refused.first
