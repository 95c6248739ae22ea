use Rattle.std.proofs.Common.{arith}
use Rattle.std.proofs.lemmas.Grind.{common_steps}
use Rattle.tm_monitors.specs.MonitorQueues.{all_queued}
use Rattle.tm_monitors.specs.StoredMonitorQueues.{queues_view}
use Rattle.tm_monitors.proofs.MonitorQueuesLemmas.{told}
use Rattle.tm_monitors.proofs.monitor_queues.MonitorQueues.contains.Goals as goal

pub returns : goal.returns
returns c =
    let says = told (all_queued (queues_view c.self.inside)) c.self.inside.waits.items c.args.thread c.self.invariant.told in
    rw (← c.self.view_is) (grind (arith, common_steps, says))
