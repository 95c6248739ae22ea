use Rattle.tm_monitors.proofs.MonitorQueuesLemmas.{entered-kept}
use Rattle.tm_monitors.proofs.monitor_queues.MonitorQueues.enter.Goals as goal

pub invariant_of-self : goal.invariant_of-self
invariant_of-self c =
    let known = rw (← c.self.view_is) at c.requires.known in
    let new = rw (← c.self.view_is) at c.requires.new in
    rw c.push.ensures (entered-kept c.self.inside c.args.thread c.self.invariant known new)
