-- The law, by what each thread and each object leaves.
use Rattle.tm_order.proofs.InterleavingsLemmas.{run-one}
use Rattle.tm_order.proofs.joint_runs_leave_one_state.Goals as goal

pub returns : goal.returns
returns c = λ x es j k left right. run-one x es j k left right
