use Rattle.std.proofs.Common.{◌≤◌, length, ap, sym, subst, arith}
use Rattle.tm_joint.specs.Joints.{JointView}
use Rattle.tm_joint.specs.StoredJoints.{state_of}
use Rattle.tm_joint.proofs.Showings.{length-bars}
use Rattle.tm_joint.proofs.joints.Joint.next_runnable.Goals as goal

pub next_runnable-requires : goal.next_runnable-requires
next_runnable-requires c =
    omega (
      arith,
      subst (λ (v : JointView). c.args.last ≤ length v.exercise.programs) (sym c.self.view_is) c.requires,
      length-bars (state_of c.self.inside),
      ap length c.self.invariant.bars,
      c.self.invariant.kept.sound.thread_count,
    )
