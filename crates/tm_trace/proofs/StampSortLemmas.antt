-- Events that a sort by stamp and thread leaves.
use Rattle.std.proofs.Common.{List, [], ◌∷◌, arith}
use Rattle.std.proofs.lemmas.List.Elements.{Contains-get_or}
use Rattle.std.proofs.lemmas.List.Kept.{AllPairs-cons}
use Rattle.tm_base.specs.declared.events.Entry.{Entry}
use Rattle.tm_base.specs.Orders.{IsNotLater}
use Rattle.tm_merge.specs.Rising.{IsRising}
use Rattle.tm_order.specs.StampOrder.{IsInStampOrder}

pub rising-order : (es : List Entry) → IsRising es → IsInStampOrder es
rising-order [] rising = λ i j d less within. absurd (omega (arith, within))
rising-order (e ∷ es) rising = AllPairs-cons IsNotLater e es (λ i d within. rising.0 _ (Contains-get_or es i d within)) (rising-order es rising.1)
