use Rattle.std.proofs.Common.{◌≡◌, ◌∙◌, ap, arith, replicate, subst, sym}
use Rattle.tm_base.specs.declared.bars.Bar.TheVariants as bar
use Rattle.tm_text.specs.Exercises.{IsWellFormed}
use Rattle.tm_replay.specs.Bars.{bars_of}
use Rattle.tm_replay.specs.JointStates.{JointState, start}
use Rattle.tm_replay.proofs.JointStartLemmas.{IsCounted-start, IsSoundJoint-start}
use Rattle.tm_joint.specs.Joints.{IsKept}
use Rattle.tm_joint.proofs.Showings.{start-bars}
use Rattle.tm_joint.proofs.joints.Joint.make.Goals as goal

pub invariant_of-result : goal.invariant_of-result
invariant_of-result c =
    let x = c.args.exercise.now in
    let formed : IsWellFormed x = c.threads.ensures.well_formed in
    let j : JointState = record { objects = c.in_ok-objects.objects.items; threads = c.in_ok-seats.seats.items } in
    let is : j ≡ start x = ap (λ o. let k : JointState = record { objects = o; threads = c.in_ok-seats.seats.items } in k) c.in_ok-objects.ensures
    ∙ ap (λ t. let k : JointState = record { objects = (start x).objects; threads = t } in k) c.in_ok-seats.ensures in
    record {
      kept = subst (λ (k : JointState). IsKept (record { exercise = x; state = k; applied = 0; last_stamp = 0 })) (sym is)
          (record { formed = formed; sound = IsSoundJoint-start x formed; counted = IsCounted-start x formed; few = omega arith; stamp = omega arith });
      bars = c.in_ok-bars.ensures ∙ ap (λ n. replicate n bar.Unborn) c.threads.ensures.value ∙ start-bars x ∙ ap bars_of (sym is);
    }
