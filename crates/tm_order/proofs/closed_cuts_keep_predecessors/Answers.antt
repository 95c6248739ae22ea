-- The law, for chains of two events.
use Rattle.tm_order.proofs.CutsLemmas.{closed-keeps}
use Rattle.tm_order.proofs.closed_cuts_keep_predecessors.Goals as goal

pub returns : goal.returns
returns c = λ cut events closed. closed-keeps cut events closed
