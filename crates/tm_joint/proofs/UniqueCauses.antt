-- An event that is refused is refused for one first cause.
use Rattle.std.proofs.Common.{◌≡◌, ◌≢◌, ℕ, true, false, Some, None, ⊎_elim, refl, ap, sym, ◌∙◌, subst}
use Rattle.std.proofs.lemmas.Bool.{false≢true}
use Rattle.tm_base.specs.declared.operations.Op.{Op}
use Rattle.tm_base.specs.declared.operations.Op.TheVariants as op
use Rattle.tm_base.specs.declared.replies.Reply.{Reply}
use Rattle.tm_base.specs.declared.events.Entry.{Entry}
use Rattle.tm_base.specs.States.{grant_of}
use Rattle.tm_base.specs.Histories.{Lawful}
use Rattle.tm_laws.proofs.Determined.{Lawful-reply}
use Rattle.tm_text.specs.Exercises.{ExerciseView, own_of}
use Rattle.tm_replay.specs.declared.phases.Phase.{Phase}
use Rattle.tm_replay.specs.declared.phases.Phase.TheVariants as phase
use Rattle.tm_replay.specs.JointStates.{JointState, ThreadState, ObjectState}
use Rattle.tm_replay.specs.JointSteps.{May, MayIn}
use Rattle.tm_replay.specs.SoundStates.{is_past}
use Rattle.tm_joint.specs.declared.asked.Asked.{Asked}
use Rattle.tm_joint.specs.declared.refusals.Cause.{Cause}
use Rattle.tm_joint.specs.declared.refusals.Cause.TheVariants as cause
use Rattle.tm_joint.specs.declared.refusals.Illegal.{Illegal}
use Rattle.tm_merge.specs.declared.holds.Missing.{Missing}
use Rattle.tm_merge.specs.declared.holds.Missing.TheVariants as missing
use Rattle.tm_joint.specs.Asking.{asked_in}
use Rattle.tm_joint.specs.Refusals.{HasAnswer, IsCause, IsIllegal, IsInPlace, IsMissing, IsNoResume, IsTimely, stamp_after}

module _ (x : ExerciseView) (s : ThreadState) (b : ObjectState) (e : Entry) where
  missing-one : (m n : Missing) → IsMissing s b e m → IsMissing s b e n → m ≡ n
  missing-one (missing.Thread t p) (missing.Thread u q) h k = ap (λ i. missing.Thread i p) (h.0 ∙ sym k.0) ∙ ap (missing.Thread u) (h.1 ∙ sym k.1)
  missing-one (missing.Thread t p) (missing.Object o q) h k = absurd (h.2 (k.0 ∙ sym h.1))
  missing-one (missing.Object o p) (missing.Thread u q) h k = absurd (k.2 (h.0 ∙ sym k.1))
  missing-one (missing.Object o p) (missing.Object u q) h k = ap (λ i. missing.Object i p) (h.1 ∙ sym k.1) ∙ ap (missing.Object u) (h.2 ∙ sym k.2)

  misplaced : (m : Missing) → IsMissing s b e m → IsInPlace s b e → ⊥
  misplaced (missing.Thread t p) h placed = h.2 (placed.place ∙ sym h.1)
  misplaced (missing.Object o p) h placed = h.3 (placed.at ∙ sym h.2)

  -- a thread that waits may only resume
  resumes : (at : ℕ) → s.phase ≡ phase.Waits at → May x e.thread s e.object e.op → (e.object ≡ at) × (e.op ≡ op.Resume)
  resumes at waits may = subst (λ (p : Phase). MayIn (own_of x.objects e.thread) p s.rest e.object e.op) waits may

  no_answer : (at : ℕ) (r : Reply) → s.phase ≡ phase.Waits at → IsNoResume b e at → May x e.thread s e.object e.op → HasAnswer b.view e.thread e.op r → ⊥
  no_answer at r waits none may answer =
      let both = resumes at waits may in
      let granted = (subst (λ (o : Op). Lawful b.view e.thread o r answer.state) both.1 answer.lawful).granted in
      ⊎_elim (λ no. no both) (λ (ungranted : grant_of b.view.state e.thread ≡ None). let same : None ≡ Some r = sym ungranted ∙ granted in absurd cc) none

  -- each cause in turn is the only one
  ended-one : (d : Cause) → is_past s.phase ≡ true → IsCause x s b e d → cause.Ended ≡ d
  ended-one cause.Ended past h = refl
  ended-one (cause.Place n) past h = absurd (false≢true (sym h.0 ∙ past))
  ended-one (cause.Stamp n) past h = absurd (false≢true (sym h.0.goes_on ∙ past))
  ended-one (cause.Waiting n) past h = absurd (false≢true (sym h.0.in_place.goes_on ∙ past))
  ended-one (cause.NotAsked n) past h = absurd (false≢true (sym h.0.in_place.goes_on ∙ past))
  ended-one cause.StoppedAlready past h = absurd (false≢true (sym h.0.timely.in_place.goes_on ∙ past))
  ended-one (cause.Reply r) past h = absurd (false≢true (sym h.0.timely.in_place.goes_on ∙ past))

  place-one : (m : Missing) (d : Cause) → is_past s.phase ≡ false → IsMissing s b e m → IsCause x s b e d → cause.Place m ≡ d
  place-one m cause.Ended on away h = absurd (false≢true (sym on ∙ h))
  place-one m (cause.Place n) on away h = ap cause.Place (missing-one m n away h.1)
  place-one m (cause.Stamp n) on away h = absurd (misplaced m away h.0)
  place-one m (cause.Waiting n) on away h = absurd (misplaced m away h.0.in_place)
  place-one m (cause.NotAsked n) on away h = absurd (misplaced m away h.0.in_place)
  place-one m cause.StoppedAlready on away h = absurd (misplaced m away h.0.timely.in_place)
  place-one m (cause.Reply r) on away h = absurd (misplaced m away h.0.timely.in_place)

  stamp-one : (m : ℕ) (d : Cause) → IsInPlace s b e → m ≡ stamp_after s b → e.stamp ≢ m → IsCause x s b e d → cause.Stamp m ≡ d
  stamp-one m cause.Ended placed is away h = absurd (false≢true (sym placed.goes_on ∙ h))
  stamp-one m (cause.Place n) placed is away h = absurd (misplaced n h.1 placed)
  stamp-one m (cause.Stamp n) placed is away h = ap cause.Stamp (is ∙ sym h.1)
  stamp-one m (cause.Waiting n) placed is away h = absurd (away (h.0.stamp ∙ sym is))
  stamp-one m (cause.NotAsked n) placed is away h = absurd (away (h.0.stamp ∙ sym is))
  stamp-one m cause.StoppedAlready placed is away h = absurd (away (h.0.timely.stamp ∙ sym is))
  stamp-one m (cause.Reply r) placed is away h = absurd (away (h.0.timely.stamp ∙ sym is))

  waiting-one : (at : ℕ) (d : Cause) → IsTimely s b e → s.phase ≡ phase.Waits at → IsNoResume b e at → IsCause x s b e d → cause.Waiting at ≡ d
  waiting-one at cause.Ended timely waits none h = absurd (false≢true (sym timely.in_place.goes_on ∙ h))
  waiting-one at (cause.Place n) timely waits none h = absurd (misplaced n h.1 timely.in_place)
  waiting-one at (cause.Stamp n) timely waits none h = absurd (h.2 (timely.stamp ∙ sym h.1))
  waiting-one at (cause.Waiting n) timely waits none h = let both : phase.Waits at ≡ phase.Waits n = sym waits ∙ h.1 in let same : at ≡ n = cc in ap cause.Waiting same
  waiting-one at (cause.NotAsked n) timely waits none h =
      let nothing : None ≡ Some n = sym (ap (λ p. asked_in (own_of x.objects e.thread) p s.rest) waits) ∙ h.1 in absurd cc
  waiting-one at cause.StoppedAlready timely waits none h =
      let both : op.Stop ≡ op.Resume = sym h.1 ∙ (resumes at waits h.0.may).1 in absurd cc
  waiting-one at (cause.Reply r) timely waits none h = absurd (no_answer at r waits none h.0.may h.1)

  asked-one : (m : Asked) (d : Cause) → IsCause x s b e (cause.NotAsked m) → IsCause x s b e d → cause.NotAsked m ≡ d
  asked-one m cause.Ended k h = absurd (false≢true (sym k.0.in_place.goes_on ∙ h))
  asked-one m (cause.Place n) k h = absurd (misplaced n h.1 k.0.in_place)
  asked-one m (cause.Stamp n) k h = absurd (h.2 (k.0.stamp ∙ sym h.1))
  asked-one m (cause.Waiting n) k h = sym (waiting-one n (cause.NotAsked m) h.0 h.1 h.2 k)
  asked-one m (cause.NotAsked n) k h = let both : Some m ≡ Some n = sym k.1 ∙ h.1 in let same : m ≡ n = cc in ap cause.NotAsked same
  asked-one m cause.StoppedAlready k h = absurd (k.2 h.0.may)
  asked-one m (cause.Reply r) k h = absurd (k.2 h.0.may)

  stopped-one : (d : Cause) → IsCause x s b e cause.StoppedAlready → IsCause x s b e d → cause.StoppedAlready ≡ d
  stopped-one cause.Ended k h = absurd (false≢true (sym k.0.timely.in_place.goes_on ∙ h))
  stopped-one (cause.Place n) k h = absurd (misplaced n h.1 k.0.timely.in_place)
  stopped-one (cause.Stamp n) k h = absurd (h.2 (k.0.timely.stamp ∙ sym h.1))
  stopped-one (cause.Waiting n) k h = sym (waiting-one n cause.StoppedAlready h.0 h.1 h.2 k)
  stopped-one (cause.NotAsked n) k h = absurd (h.2 k.0.may)
  stopped-one cause.StoppedAlready k h = refl
  stopped-one (cause.Reply r) k h =
      let halts = subst (λ (o : Op). Lawful b.view e.thread o r h.1.state) k.1 h.1.lawful in absurd (false≢true (sym halts.running ∙ k.2))

  reply-one : (q : Reply) (d : Cause) → IsCause x s b e (cause.Reply q) → IsCause x s b e d → cause.Reply q ≡ d
  reply-one q cause.Ended k h = absurd (false≢true (sym k.0.timely.in_place.goes_on ∙ h))
  reply-one q (cause.Place n) k h = absurd (misplaced n h.1 k.0.timely.in_place)
  reply-one q (cause.Stamp n) k h = absurd (h.2 (k.0.timely.stamp ∙ sym h.1))
  reply-one q (cause.Waiting n) k h = sym (waiting-one n (cause.Reply q) h.0 h.1 h.2 k)
  reply-one q (cause.NotAsked n) k h = absurd (h.2 k.0.may)
  reply-one q cause.StoppedAlready k h = sym (stopped-one (cause.Reply q) h k)
  reply-one q (cause.Reply r) k h = ap cause.Reply (Lawful-reply b.view e.thread e.op q r k.1.state h.1.state k.1.lawful h.1.lawful)

  pub cause-one : (c d : Cause) → IsCause x s b e c → IsCause x s b e d → c ≡ d
  cause-one cause.Ended d k h = ended-one d k h
  cause-one (cause.Place m) d k h = place-one m d k.0 k.1 h
  cause-one (cause.Stamp m) d k h = stamp-one m d k.0 k.1 k.2 h
  cause-one (cause.Waiting at) d k h = waiting-one at d k.0 k.1 k.2 h
  cause-one (cause.NotAsked m) d k h = asked-one m d k h
  cause-one cause.StoppedAlready d k h = stopped-one d k h
  cause-one (cause.Reply r) d k h = reply-one r d k h

-- two refusals of one event in one state are equal
pub IsIllegal-one : (x : ExerciseView) (j : JointState) (e : Entry) (a c : Illegal) → IsIllegal x j e a → IsIllegal x j e c → a ≡ c
IsIllegal-one x j e a c h k =
    let thread : Some h.1.thread_state ≡ Some k.1.thread_state = sym h.1.thread ∙ k.1.thread in
    let object : Some h.1.object_state ≡ Some k.1.object_state = sym h.1.object ∙ k.1.object in
    let same_thread : k.1.thread_state ≡ h.1.thread_state = cc in
    let same_object : k.1.object_state ≡ h.1.object_state = cc in
    let first : IsCause x h.1.thread_state h.1.object_state e c.cause =
    subst (λ (s : ThreadState). IsCause x s h.1.object_state e c.cause) same_thread
    (subst (λ (b : ObjectState). IsCause x k.1.thread_state b e c.cause) same_object k.1.first) in
    let causes : a.cause ≡ c.cause = cause-one x h.1.thread_state h.1.object_state e a.cause c.cause h.1.first first in
    let entries : a.entry ≡ c.entry = h.0 ∙ sym k.0 in
    ap (λ (n : Entry). let i : Illegal = record { entry = n; cause = a.cause } in i) entries
    ∙ ap (λ (d : Cause). let i : Illegal = record { entry = c.entry; cause = d } in i) causes
