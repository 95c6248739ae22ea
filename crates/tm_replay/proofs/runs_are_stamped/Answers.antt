-- The law, event by event.
use Rattle.tm_replay.proofs.JointOrderLemmas.{runs-stamped}
use Rattle.tm_replay.proofs.runs_are_stamped.Goals as goal

pub returns : goal.returns
returns c = λ x es j run. runs-stamped x es j run
