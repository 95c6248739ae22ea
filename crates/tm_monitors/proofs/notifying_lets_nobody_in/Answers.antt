-- By the row of either operation.
use Rattle.tm_monitors.proofs.MesaLawsLemmas.{notifying-keeps}
use Rattle.tm_monitors.proofs.notifying_lets_nobody_in.Goals as goal

pub returns : goal.returns
returns c = λ l count es p e q condition its run f does. notifying-keeps l count p e q condition its f does
