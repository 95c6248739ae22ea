-- The law, one way and the other.
use Rattle.tm_order.proofs.Rearranging.{rearranged, run-keeps}
use Rattle.tm_order.proofs.joint_runs_rearrange.Goals as goal

pub returns : goal.returns
returns c = λ x es order j run permutation. ((λ other. run-keeps x order j other), (λ keeps. rearranged x es order j run permutation keeps))
