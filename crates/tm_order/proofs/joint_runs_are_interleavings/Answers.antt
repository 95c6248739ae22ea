-- The law, one way and the other.
use Rattle.tm_order.proofs.InterleavingsLemmas.{run-interleaves, interleaving-run}
use Rattle.tm_order.proofs.joint_runs_are_interleavings.Goals as goal

pub returns : goal.returns
returns c = λ x es j. ((λ run. run-interleaves x es j run), (λ interleaving. interleaving-run x es j interleaving))
