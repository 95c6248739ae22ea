use Rattle.std.proofs.Common.{ap, ◌∙◌}
use Rattle.tm_replay.specs.Ends.{end_of, named_of}
use Rattle.tm_joint.specs.Joints.{JointView}
use Rattle.tm_session.proofs.alone_runs.AloneRun.finish.Goals as goal

pub returns-clause-end : goal.returns-clause-end
returns-clause-end g c = c.in_ok-end.ensures.end ∙ ap (λ (v : JointView). end_of c.args.rules.limit v.state) c.joint-joint.ensures.value

pub returns-clause-cut : goal.returns-clause-cut
returns-clause-cut g c = c.from_vec.ensures ∙ ap (λ l. l) c.in_ok-end.ensures.named ∙ ap (λ (v : JointView). named_of c.args.rules.limit v.state) c.joint-joint.ensures.value
