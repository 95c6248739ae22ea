use Rattle.std.proofs.lemmas.List.{length-map}
use Rattle.tm_monitors.proofs.MonitorQueuesLemmas.{waited-kept, waited-view, condition-free}
use Rattle.tm_monitors.proofs.monitor_queues.MonitorQueues.wait.Goals as goal

pub push-requires-clause-new : goal.push-requires-clause-new
push-requires-clause-new c =
    let there = rw (← c.self.view_is) at c.requires.there in
    let new = rw (← c.self.view_is) at c.requires.new in
    condition-free c.self.inside c.args.condition c.args.thread c.index_mut.result.now there c.index_mut.ensures.value new

pub invariant_of-self : goal.invariant_of-self
invariant_of-self c =
    let there = rw (← c.self.view_is) at c.requires.there in
    let known = rw (← c.self.view_is) at c.requires.known in
    let new = rw (← c.self.view_is) at c.requires.new in
    rw c.push.ensures (waited-kept c.self.inside c.args.condition c.args.thread c.index_mut.result.now c.self.invariant (rw length-map at there) c.index_mut.ensures.value known new)

pub returns : goal.returns
returns c =
    let there = rw (← c.self.view_is, length-map) at c.requires.there in
    rw c.push.ensures (waited-view c.self.inside c.args.condition c.args.thread c.index_mut.result.now c.args.self.now c.self.view_is there c.index_mut.ensures.value)
