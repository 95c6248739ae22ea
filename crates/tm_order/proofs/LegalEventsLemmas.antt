-- Events of which some order is a joint run.
use Rattle.std.proofs.Common.{◌≡◌, List, ◌∷◌, subst}
use Rattle.std.specs.Prelude.{IsPermutation}
use Rattle.std.proofs.lemmas.List.Sorted.{Contains-permutation, IsPermutation-sym, IsPermutation-trans}
use Rattle.tm_base.specs.declared.events.Entry.{Entry}
use Rattle.tm_base.specs.Orders.{KeepsPredecessors}
use Rattle.tm_laws.proofs.RunsLemmas.{Leads-split}
use Rattle.tm_text.specs.Exercises.{ExerciseView}
use Rattle.tm_replay.specs.JointStates.{JointState, start}
use Rattle.tm_replay.specs.JointSteps.{IsJointRun, JointStep}
use Rattle.tm_replay.proofs.JointOrderLemmas.{runs-placed, runs-stamped}
use Rattle.tm_order.specs.LegalEvents.{AreLegal, BreaksOff, RunInEachOrder}
use Rattle.tm_order.proofs.PlacedLemmas.{placed-permuted}
use Rattle.tm_order.proofs.Rearranging.{rearranged}
use Rattle.tm_order.proofs.StampOrderLemmas.{run-sorts, stamped-rises}
use Rattle.tm_order.proofs.InterleavingsLemmas.{run-one, run-reaches}

module _ (x : ExerciseView) (es : List Entry) (legal : AreLegal x es) where
  back : IsPermutation legal.order es
  back = IsPermutation-sym es legal.order legal.permutation

  pub legal-runs : RunInEachOrder x es
  legal-runs = record {
    range = λ e within. (run-reaches x legal.order legal.joint legal.run).1 e (Contains-permutation es legal.order e legal.permutation within);
    placed = placed-permuted legal.order es (runs-placed x legal.order legal.joint legal.run) back;
    rise = λ a b first second direct.
        stamped-rises legal.order (runs-stamped x legal.order legal.joint legal.run) a b (Contains-permutation es legal.order a legal.permutation first)
        (Contains-permutation es legal.order b legal.permutation second) direct;
    joint = legal.joint;
    runs = λ order permutation keeps. rearranged x legal.order order legal.joint legal.run (IsPermutation-trans legal.order es order back permutation) keeps;
    sorted = λ order permutation sorted. run-sorts x legal.order order legal.joint legal.run (IsPermutation-trans legal.order es order back permutation) sorted;
  }

  pub broken-illegal : (order : List Entry) → IsPermutation es order → KeepsPredecessors order → BreaksOff x order → ⊥
  broken-illegal order permutation keeps breaks =
      let run = legal-runs.runs order permutation keeps in
      let parts = Leads-split (JointStep x) breaks.prefix (breaks.event ∷ breaks.back) (start x) legal-runs.joint
      (subst (λ (l : List Entry). IsJointRun x l legal-runs.joint) breaks.parts run) in
      let same : parts.0 ≡ breaks.joint = run-one x breaks.prefix parts.0 breaks.joint parts.1 breaks.run in
      breaks.illegal parts.2.0 (subst (λ (j : JointState). JointStep x j breaks.event parts.2.0) same parts.2.1)
