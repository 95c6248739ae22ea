-- A message is added only where there is room, or where another one leaves.
use Rattle.tm_channels.proofs.CapacitiesLemmas.{history-within}
use Rattle.tm_channels.proofs.capacity_is_kept.Goals as goal

pub returns : goal.returns
returns c = λ l capacity es p its run. history-within l capacity es p its run
