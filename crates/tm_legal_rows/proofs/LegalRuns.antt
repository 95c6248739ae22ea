-- Where the first events of a legal run were applied, the others can be applied next.
use Rattle.std.proofs.Common.{◌≡◌, ℕ, zero, suc, List, [], ◌∷◌, ◌++◌, length, take, drop, slice_get, Some, All, refl, sym, ap, ◌∙◌, subst, take-append-drop, length-set, arith}
use Rattle.std.proofs.lemmas.List.{length-map}
use Rattle.std.proofs.lemmas.List.Elements.{All-nil, All-cons}
use Rattle.std.proofs.lemmas.Option.{slice_get_within}
use Rattle.tm_base.specs.declared.events.Entry.{Entry}
use Rattle.tm_base.specs.Runs.{Leads}
use Rattle.tm_laws.proofs.RunsLemmas.{Leads-map, Leads-one, Leads-split}
use Rattle.tm_text.specs.Exercises.{ExerciseView}
use Rattle.tm_replay.specs.JointStates.{JointState, first_object_state, start, unbegun}
use Rattle.tm_replay.specs.JointSteps.{JointStep, IsJointRun}
use Rattle.tm_replay.proofs.DeterminedStepsLemmas.{Happens-one}
use Rattle.tm_joint.specs.declared.refusals.Illegal.{Illegal}
use Rattle.tm_joint.specs.Joints.{JointView}
use Rattle.tm_joint.proofs.RefusalsLemmas.{Refuses-no_step}
use Rattle.tm_collect.specs.declared.writers.Stop.{Stop}
use Rattle.tm_collect.specs.declared.writers.Stop.TheVariants as stop
use Rattle.tm_collect.specs.Advancing.{Advances, IsInRange, IsNextIllegal, Shows, StopsBy}
use Rattle.tm_collect.specs.Sending.{Outlet}
use Rattle.tm_collect.specs.Transcripts.{AddsRow, first_joint, transcript_at}
use Rattle.tm_legal_rows.specs.LegalTexts.{IsLegal}

take-none : {A : Type 0} (es : List A) → take 0 es ≡ []
take-none [] = refl
take-none (e ∷ es) = refl

drop-next : {A : Type 0} (es : List A) (n : ℕ) (e : A) → slice_get es n ≡ Some e → drop n es ≡ e ∷ drop (suc n) es
drop-next [] n e at = absurd cc
drop-next (a ∷ es) zero e at = let same : a ≡ e = cc in ap (λ z. z ∷ es) same
drop-next (a ∷ es) (suc n) e at = drop-next es n e at

module _ (x : ExerciseView) where
  -- an event leaves one state
  step-one : (p : JointState) (e : Entry) (a b : JointState) → JointStep x p e a → JointStep x p e b → a ≡ b
  step-one p e a b left right = (Happens-one p a b e e left.happens right.happens refl refl refl).1

  -- what follows the first events of a run leads on from the state that they leave
  rest-leads : (es fs : List Entry) (p q r : JointState) → Leads (JointStep x) p (es ++ fs) r → Leads (JointStep x) p es q → Leads (JointStep x) q fs r
  rest-leads es fs p q r whole first =
      let parts = Leads-split (JointStep x) es fs p r whole in
      subst (λ (m : JointState). Leads (JointStep x) m fs r) (Leads-one (JointStep x) step-one es p parts.0 q parts.1 first) parts.2

  ranges-from : (es : List Entry) (p q : JointState) → length p.objects ≡ length x.objects → length p.threads ≡ suc (length x.programs) → Leads (JointStep x) p es q → All (IsInRange x) es
  ranges-from [] p q objects threads run = All-nil (IsInRange x)
  ranges-from (e ∷ es) p q objects threads run =
      let happens = run.1.happens in
      let thread = slice_get_within p.threads e.thread happens.thread_state happens.thread in
      let object = slice_get_within p.objects e.object happens.object_state happens.object in
      All-cons (IsInRange x) e es (record { thread = omega (arith, thread, threads); object = omega (arith, object, objects) })
      (ranges-from es run.0 q (ap length happens.objects ∙ length-set p.objects e.object _ ∙ objects) (ap length happens.threads ∙ length-set p.threads e.thread _ ∙ threads) run.2)

  -- its threads and objects are ones of the exercise
  pub legal-ranges : (es : List Entry) (j : JointState) → IsJointRun x es j → All (IsInRange x) es
  legal-ranges es j run = ranges-from es (start x) j (length-map x.objects (λ d. first_object_state (length x.programs) d.kind)) (ap suc (length-map x.programs unbegun)) run

  module _ (es : List Entry) (w : JointView) (rows : List ℕ) (a : Advances x es (first_joint x) w rows) where
    -- those that were applied, and the others
    pub applied-rest : es ≡ a.news ++ drop w.applied es
    applied-rest =
        let first : take w.applied es ≡ a.news = a.shown ∙ ap (λ (l : List Entry). l ++ a.news) (take-none es) in
        sym (take-append-drop w.applied es) ∙ ap (λ (l : List Entry). l ++ drop w.applied es) first

    applied-run : Leads (JointStep x) (start x) a.news w.state
    applied-run = Leads-map (AddsRow x) (JointStep x) (λ p. p.joint) (λ p e q adds. adds.step) a.news (transcript_at (first_joint x) []) (transcript_at w rows) a.transcript

    module _ (j : JointState) (run : IsJointRun x es j) where
      pub rest-run : Leads (JointStep x) w.state (drop w.applied es) j
      rest-run = rest-leads a.news (drop w.applied es) (start x) w.state j (subst (λ (l : List Entry). IsJointRun x l j) applied-rest run) applied-run

      -- the next one isn't refused
      pub none-illegal : (i : Illegal) → IsNextIllegal x es w i → ⊥
      none-illegal i next =
          let e : Entry = i.entry in
          let steps = subst (λ (l : List Entry). Leads (JointStep x) w.state l j) (drop-next es w.applied e next.next) rest-run in
          Refuses-no_step x w.state steps.0 e i.cause next.illegal.1 steps.1

  -- so it is never a refusal that stops a writer
  pub none-stops : (es : List Entry) → IsLegal x es → (v w : JointView) (o p : Outlet) (s : Stop) (i : Illegal) → v ≡ first_joint x → s ≡ stop.Illegal i → StopsBy x es v w o p s → ⊥
  none-stops es legal v w o p s i fresh same stops =
      let known : Shows x es v w o p × IsNextIllegal x es w i = subst (λ (t : Stop). StopsBy x es v w o p t) same stops in
      none-illegal es w known.0.rows (subst (λ (u : JointView). Advances x es u w known.0.rows) fresh known.0.advances) legal.0 legal.1 i known.1
