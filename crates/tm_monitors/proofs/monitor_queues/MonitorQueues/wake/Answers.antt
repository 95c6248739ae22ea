use Rattle.std.proofs.Common.{refl}
use Rattle.std.proofs.lemmas.List.{length-map}
use Rattle.tm_monitors.proofs.MonitorQueuesLemmas.{woken-kept, woken-first, woken-gone, lists_of-set, waiting-at}
use Rattle.tm_monitors.proofs.monitor_queues.MonitorQueues.wake.Goals as goal

pub invariant_of-self-2 : goal.invariant_of-self-2
invariant_of-self-2 c =
    let there = rw (← c.self.view_is, length-map) at c.requires in
    woken-kept c.self.inside c.args.condition c.in_ok-head.head c.index_mut.result.now c.pop.new.self c.self.invariant there c.index_mut.ensures.value c.in_ok-head.ensures.oldest c.in_ok-head.ensures.known

pub returns-clause-first : goal.returns-clause-first
returns-clause-first c =
    let there = rw (← c.self.view_is, length-map) at c.requires in
    let first = woken-first c.self.inside c.args.condition c.in_ok-head.head c.index_mut.result.now c.pop.new.self c.self.invariant there c.index_mut.ensures.value c.in_ok-head.ensures.oldest c.in_ok-head.ensures.known in
    rw (← c.self.view_is, waiting-at _ _ _ first) first

pub returns-clause-left : goal.returns-clause-left
returns-clause-left c =
    let there = rw (← c.self.view_is, length-map) at c.requires in
    let first = woken-first c.self.inside c.args.condition c.in_ok-head.head c.index_mut.result.now c.pop.new.self c.self.invariant there c.index_mut.ensures.value c.in_ok-head.ensures.oldest c.in_ok-head.ensures.known in
    rw (← c.self.view_is, waiting-at _ _ _ first, lists_of-set) refl

pub returns-clause-gone : goal.returns-clause-gone
returns-clause-gone c =
    let there = rw (← c.self.view_is, length-map) at c.requires in
    woken-gone c.self.inside c.args.condition c.in_ok-head.head c.index_mut.result.now c.pop.new.self c.self.invariant there c.index_mut.ensures.value c.in_ok-head.ensures.oldest c.in_ok-head.ensures.known
