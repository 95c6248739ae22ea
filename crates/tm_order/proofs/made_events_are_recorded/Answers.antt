-- The law, event by event.
use Rattle.tm_order.proofs.ViewsLemmas.{made-recorded}
use Rattle.tm_order.proofs.made_events_are_recorded.Goals as goal

pub returns : goal.returns
returns c = λ x made seen es recorded agree are. made-recorded x made seen es recorded agree are
