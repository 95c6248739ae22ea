-- The law, along chains.
use Rattle.tm_order.proofs.StampOrderLemmas.{stamps-order}
use Rattle.tm_order.proofs.stamps_order_events.Goals as goal

pub returns : goal.returns
returns c = λ es placed rises. stamps-order es placed rises
