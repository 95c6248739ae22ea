use Rattle.std.proofs.Common.{◌≡◌, ◌≢◌, Bool, MatchBool, sym, subst}
use Rattle.tm_base.specs.contracts.operations.OpPartialEq.TheImpl.{eq-value}
use Rattle.tm_joint.proofs.SameOps.{is_same}
use Rattle.tm_joint.proofs.judging.is_op.Goals as goal

pub returns : goal.returns
returns c =
    let is : c.eq.result ≡ eq-value.it c.args.op c.args.other = c.eq.ensures in
    subst (λ (r : Bool). MatchBool r (c.args.op ≡ c.args.other) (c.args.op ≢ c.args.other)) (sym is) (is_same c.args.op c.args.other)
