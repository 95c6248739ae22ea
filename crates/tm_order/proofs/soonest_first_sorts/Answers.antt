-- The law, by rising stamps.
use Rattle.tm_order.proofs.ReadyLemmas.{placed-complete, soonest-sorts}
use Rattle.tm_order.proofs.soonest_first_sorts.Goals as goal

pub returns : goal.returns
returns c = λ es placed rises soonest. soonest-sorts es (placed-complete es placed rises) soonest
