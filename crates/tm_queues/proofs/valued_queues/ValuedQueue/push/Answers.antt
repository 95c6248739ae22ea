use Rattle.tm_queues.proofs.ValuedQueuesLemmas.{threads-view, keeps-push, view-push}
use Rattle.tm_queues.proofs.valued_queues.ValuedQueue.push.Goals as goal

pub push-requires-clause-new : goal.push-requires-clause-new
push-requires-clause-new g c = rw (threads-view _ _ _ c.self.invariant c.self.view_is) at c.requires.new

pub invariant_of-self : goal.invariant_of-self
invariant_of-self g c =
    let new = rw (threads-view _ _ _ c.self.invariant c.self.view_is) at c.requires.new in
    rw c.push.ensures (keeps-push _ _ _ _ c.self.invariant (rw (← c.self.view_is) at c.requires.known) new)

pub returns : goal.returns
returns g c =
    let new = rw (threads-view _ _ _ c.self.invariant c.self.view_is) at c.requires.new in
    rw (← c.self.view_is, c.push.ensures) (view-push _ _ _ _ c.self.invariant (rw (← c.self.view_is) at c.requires.known) new)
