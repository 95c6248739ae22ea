use Rattle.tm_merge.proofs.OrderLemmas.{numbered_closed}
use Rattle.tm_merge.proofs.numbering.numbered_events_are_closed.Goals as goal

pub returns : goal.returns
returns c = numbered_closed
