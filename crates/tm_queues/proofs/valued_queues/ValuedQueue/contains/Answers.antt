use Rattle.tm_queues.proofs.ValuedQueuesLemmas.{threads-view}
use Rattle.tm_queues.proofs.valued_queues.ValuedQueue.contains.Goals as goal

pub returns : goal.returns
returns g c = rw (threads-view _ _ _ c.self.invariant c.self.view_is) c.contains.ensures
