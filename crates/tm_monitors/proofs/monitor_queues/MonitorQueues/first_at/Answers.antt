use Rattle.std.proofs.Common.{Some, sym, ap, ◌∙◌}
use Rattle.std.proofs.lemmas.List.{length-map}
use Rattle.tm_queues.specs.WaitQueues.{QueueView}
use Rattle.tm_monitors.proofs.MonitorQueuesLemmas.{first-at, list_at}
use Rattle.tm_monitors.specs.StoredMonitorQueues.{lists_of}
use Rattle.tm_monitors.proofs.monitor_queues.MonitorQueues.first_at.Goals as goal

pub returns : goal.returns
returns c =
    let there = rw (← c.self.view_is, length-map) at c.requires in
    let q = c.index.result.now in
    let stored = list_at c.self.inside.conditions.items c.args.condition q there ∙ ap (λ (v : QueueView). Some v.queue) (sym c.index.ensures) in
    rw (← c.self.view_is, c.head.ensures) (first-at (lists_of c.self.inside.conditions.items) c.args.condition q.queue stored)
