use Rattle.tm_queues.proofs.ValuedQueuesLemmas.{length-view}
use Rattle.tm_queues.proofs.valued_queues.ValuedQueue.is_empty.Goals as goal

pub returns : goal.returns
returns g c = rw (length-view _ _ _ c.self.invariant c.self.view_is) c.is_empty.ensures
