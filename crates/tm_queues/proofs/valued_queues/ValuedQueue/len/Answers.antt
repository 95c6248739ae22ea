use Rattle.tm_queues.proofs.ValuedQueuesLemmas.{length-view}
use Rattle.tm_queues.proofs.valued_queues.ValuedQueue.len.Goals as goal

pub returns-clause-value : goal.returns-clause-value
returns-clause-value g c = rw (length-view _ _ _ c.self.invariant c.self.view_is) c.len.ensures.value
