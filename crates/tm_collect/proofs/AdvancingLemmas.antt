-- One event more, and several after others.
use Rattle.std.proofs.Common.{◌≡◌, ℕ, zero, suc, ◌+◌, ◌-◌, ◌≤◌, List, [], ◌∷◌, ◌++◌, length, take, slice_get, Some, refl, sym, ap, ◌∙◌, subst, append_assoc, append-nil, arith}
use Rattle.std.proofs.lemmas.Option.{slice_get_within}
use Rattle.std.proofs.lemmas.List.FromFn.{length-map-range_with_len}
use Rattle.tm_base.specs.declared.operations.Op.{Op}
use Rattle.tm_base.specs.declared.replies.Reply.{Reply}
use Rattle.tm_base.specs.declared.replies.Reply.TheVariants as reply
use Rattle.tm_base.specs.declared.events.Entry.{Entry}
use Rattle.tm_base.specs.declared.bars.Bar.{Bar}
use Rattle.tm_base.specs.States.{State}
use Rattle.tm_base.specs.Machines.{ObjectView}
use Rattle.tm_base.specs.Histories.{Lawful}
use Rattle.tm_base.specs.Runs.{Leads}
use Rattle.tm_laws.specs.Tidy.{IsSound}
use Rattle.tm_laws.proofs.Giving.{Lawful-gives}
use Rattle.tm_laws.proofs.RunsLemmas.{Leads-append, Leads-map}
use Rattle.tm_text.specs.Exercises.{ExerciseView}
use Rattle.tm_timeline.specs.Rows.{row_of, NamesThread}
use Rattle.tm_replay.specs.JointStates.{JointState}
use Rattle.tm_replay.specs.JointSteps.{JointStep}
use Rattle.tm_replay.specs.Bars.{bar_of, bars_of}
use Rattle.tm_replay.specs.SoundStates.{IsSoundJoint}
use Rattle.tm_joint.specs.Joints.{JointView}
use Rattle.tm_collect.specs.declared.writers.Stop.{Stop}
use Rattle.tm_collect.specs.declared.writers.Stop.TheVariants as stop
use Rattle.tm_collect.specs.Transcripts.{Transcript, transcript_at, AddsRow}
use Rattle.tm_collect.specs.Sending.{Outlet}
use Rattle.tm_collect.specs.Advancing.{Advances, Shows, BreaksOff, StopsBy}
use Rattle.tm_collect.proofs.SendingLemmas.{Sends-join, Sends-none, SendsPrefix-join}

names : (x : ExerciseView) (h : ObjectView) (t : ℕ) (o : Op) (r : Reply) (s' : State) → IsSound h → h.threads ≡ length x.programs → Lawful h t o r s' → NamesThread x r
names x h t o (reply.Gave u) s' sound threads lawful =
    let known = Lawful-gives h t o u s' sound lawful in
    record { program = known.0; known = omega (arith, known.1, threads) }
names x h t o r s' sound threads lawful = tt

-- a reply that names a thread names a program thread
pub step-names : (x : ExerciseView) (j k : JointState) (e : Entry) → IsSoundJoint x j → JointStep x j e k → NamesThread x e.reply
step-names x j k e sound step =
    let happens = step.happens in
    let placed = sound.objects e.object happens.object_state happens.object in
    names x happens.object_state.view e.thread e.op e.reply happens.state placed.sound placed.threads happens.lawful

-- the next event of a list
pub take-next : {A : Type 0} (es : List A) (n : ℕ) (e : A) → slice_get es n ≡ Some e → take (n + 1) es ≡ take n es ++ e ∷ []
take-next [] n e at = absurd cc
take-next (a ∷ es) zero e at = let same : a ≡ e = cc in ap (λ z. z ∷ []) same
take-next (a ∷ es) (suc n) e at =
    let one : suc n + 1 ≡ suc (n + 1) = omega arith in
    ap (λ k. take k (a ∷ es)) one ∙ ap (λ l. a ∷ l) (take-next es n e at)

-- one bar for each program thread
pub bars-count : (x : ExerciseView) (j : JointState) (bars : List Bar) → IsSoundJoint x j → bars ≡ bars_of j → length bars ≡ length x.programs
bars-count x j bars sound same =
    let len : length bars ≡ length (bars_of j) = ap length same in
    omega (arith, len, length-map-range_with_len (bar_of j) 1 (length j.threads - 1), sound.thread_count)

pub Advances-none : (x : ExerciseView) (es : List Entry) (v : JointView) → v.applied ≤ length es → Advances x es v v []
Advances-none x es v within = record { news = []; shown = sym (append-nil (take v.applied es)); within = within; exercise = refl; transcript = refl }

pub Advances-one : (x : ExerciseView) (es : List Entry) (v w : JointView) (e : Entry) (line : List ℕ) → slice_get es v.applied ≡ Some e → JointStep x v.state e w.state
    → w.applied ≡ v.applied + 1 → w.exercise ≡ v.exercise → line ≡ row_of x w.applied e (bars_of w.state) → Advances x es v w line
Advances-one x es v w e line at step count exercise same = record {
  news = e ∷ [];
  shown = ap (λ (n : ℕ). take n es) count ∙ take-next es v.applied e at;
  within = omega (arith, count, slice_get_within es v.applied e at);
  exercise = exercise;
  transcript = (transcript_at w line, record { step = step; count = count; rows = same }, refl);
}

-- rows that go before those of a transcript
abbrev before : List ℕ → Transcript → Transcript
before rows p = record { joint = p.joint; count = p.count; rows = rows ++ p.rows }

before-adds : (x : ExerciseView) (rows : List ℕ) (p : Transcript) (e : Entry) (q : Transcript) → AddsRow x p e q → AddsRow x (before rows p) e (before rows q)
before-adds x rows p e q adds = record {
  step = adds.step;
  count = adds.count;
  rows = ap (λ (l : List ℕ). rows ++ l) adds.rows ∙ sym (append_assoc rows p.rows (row_of x q.count e (bars_of q.joint)));
}

pub Advances-join : (x : ExerciseView) (es : List Entry) (u v w : JointView) (rows more : List ℕ) → Advances x es u v rows → Advances x es v w more → Advances x es u w (rows ++ more)
Advances-join x es u v w rows more a b =
    let later : Leads (AddsRow x) (transcript_at v (rows ++ [])) b.news (transcript_at w (rows ++ more)) =
    Leads-map (AddsRow x) (AddsRow x) (before rows) (before-adds x rows) b.news (transcript_at v []) (transcript_at w more) b.transcript in
    let later' : Leads (AddsRow x) (transcript_at v rows) b.news (transcript_at w (rows ++ more)) =
    subst (λ (l : List ℕ). Leads (AddsRow x) (transcript_at v l) b.news (transcript_at w (rows ++ more))) (append-nil rows) later in
    record {
      news = a.news ++ b.news;
      shown = b.shown ∙ ap (λ (l : List Entry). l ++ b.news) a.shown ∙ append_assoc (take u.applied es) a.news b.news;
      within = b.within;
      exercise = b.exercise ∙ a.exercise;
      transcript = Leads-append (AddsRow x) a.news b.news (transcript_at u []) (transcript_at v rows) (transcript_at w (rows ++ more)) a.transcript later';
    }

module _ (x : ExerciseView) (es : List Entry) where
  pub Shows-none : (v : JointView) (o : Outlet) → v.applied ≤ length es → Shows x es v v o o
  Shows-none v o within = record { rows = []; advances = Advances-none x es v within; sent = Sends-none o }

  pub Shows-join : (u v w : JointView) (o p q : Outlet) → Shows x es u v o p → Shows x es v w p q → Shows x es u w o q
  Shows-join u v w o p q a b = record {
    rows = a.rows ++ b.rows;
    advances = Advances-join x es u v w a.rows b.rows a.advances b.advances;
    sent = Sends-join o p q a.rows b.rows a.sent b.sent;
  }

  pub BreaksOff-join : (u v w : JointView) (o p q : Outlet) → Shows x es u v o p → BreaksOff x es v w p q → BreaksOff x es u w o q
  BreaksOff-join u v w o p q a b = record {
    rows = a.rows ++ b.rows;
    advances = Advances-join x es u v w a.rows b.rows a.advances b.advances;
    sent = SendsPrefix-join o p q a.rows b.rows a.sent b.sent;
  }

  pub StopsBy-join : (u v w : JointView) (o p q : Outlet) (s : Stop) → Shows x es u v o p → StopsBy x es v w p q s → StopsBy x es u w o q s
  StopsBy-join u v w o p q (stop.Illegal i) a b = (Shows-join u v w o p q a b.0, b.1)
  StopsBy-join u v w o p q stop.NoMemory a b = BreaksOff-join u v w o p q a b
