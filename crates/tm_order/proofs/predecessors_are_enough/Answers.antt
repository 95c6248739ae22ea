-- The law, one way and the other.
use Rattle.tm_order.proofs.CutsLemmas.{keeps-extends}
use Rattle.tm_order.proofs.StampOrderLemmas.{extension-keeps}
use Rattle.tm_order.proofs.predecessors_are_enough.Goals as goal

pub returns : goal.returns
returns c = λ es order permutation. ((λ keeps. keeps-extends es order permutation keeps), (λ extension. extension-keeps es order extension))
