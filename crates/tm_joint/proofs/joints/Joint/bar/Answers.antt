use Rattle.std.proofs.Common.{◌≤◌, ◌≡◌, ◌-◌, ◌<◌, length, Some, slice_get, ap, sym, ◌∙◌, subst, arith}
use Rattle.tm_replay.specs.Bars.{bar_of}
use Rattle.tm_joint.specs.Joints.{JointView}
use Rattle.tm_joint.specs.StoredJoints.{state_of}
use Rattle.tm_joint.proofs.Showings.{bars-at, length-bars}
use Rattle.tm_joint.proofs.joints.Joint.bar.Goals as goal
use Rattle.tm_joint.proofs.joints.Joint.bar.Goals.{After-self}

within : (c : After-self) → c.args.thread < length c.self.inside.seats.items
within c =
    omega (arith, subst (λ (v : JointView). c.args.thread ≤ length v.exercise.programs) (sym c.self.view_is) c.requires.known, c.self.invariant.kept.sound.thread_count)

pub bar-requires-clause-known : goal.bar-requires-clause-known
bar-requires-clause-known c =
    omega (arith, within (goal.at.bar-requires-clause-known c).After-self, length-bars (state_of c.self.inside), ap length c.self.invariant.bars, c.requires.program)

pub returns : goal.returns
returns c =
    let t = c.args.thread in
    let j = state_of c.self.inside in
    let both : Some c.bar.result ≡ Some (bar_of j t) =
    sym c.bar.ensures ∙ ap (λ l. slice_get l (t - 1)) c.self.invariant.bars ∙ bars-at j t c.requires.program (within (goal.at.returns c).After-self) in
    let same : c.bar.result ≡ bar_of j t = cc in
    same ∙ ap (λ (v : JointView). bar_of v.state t) c.self.view_is
