use Rattle.tm_merge.proofs.OrderLemmas.{numbered_in_order}
use Rattle.tm_merge.proofs.numbering.numbered_events_are_in_order.Goals as goal

pub returns : goal.returns
returns c = numbered_in_order
