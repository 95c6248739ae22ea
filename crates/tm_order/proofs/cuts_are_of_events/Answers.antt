-- The law, along chains.
use Rattle.tm_order.proofs.CutsLemmas.{closed-same}
use Rattle.tm_order.proofs.cuts_are_of_events.Goals as goal

pub returns : goal.returns
returns c = λ cut es others same closed. closed-same cut es others same closed
