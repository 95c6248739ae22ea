-- The law, event by event.
use Rattle.tm_replay.proofs.JointOrderLemmas.{runs-placed}
use Rattle.tm_replay.proofs.runs_are_well_placed.Goals as goal

pub returns : goal.returns
returns c = λ x es j run. runs-placed x es j run
