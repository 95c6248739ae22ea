-- The law, since the order would be a joint run too.
use Rattle.tm_order.proofs.LegalEventsLemmas.{broken-illegal}
use Rattle.tm_order.proofs.broken_orders_are_illegal.Goals as goal

pub returns : goal.returns
returns c = λ x es order permutation keeps breaks legal. broken-illegal x es legal order permutation keeps breaks
