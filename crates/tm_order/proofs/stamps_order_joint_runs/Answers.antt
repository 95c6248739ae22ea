-- The law, as a rearrangement.
use Rattle.tm_order.proofs.StampOrderLemmas.{run-sorts}
use Rattle.tm_order.proofs.stamps_order_joint_runs.Goals as goal

pub returns : goal.returns
returns c = λ x es order j run permutation sorted. run-sorts x es order j run permutation sorted
