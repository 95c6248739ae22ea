use Rattle.std.proofs.Common.{◌≡◌, ap}
use Rattle.std.proofs.lemmas.List.Elements.{All-push}
use Rattle.tm_queues.specs.WaitQueues.{QueueView}
use Rattle.tm_monitors.proofs.MonitorQueuesLemmas.{empty-more}
use Rattle.tm_monitors.proofs.monitor_queues.empty_conditions.Goals as goal

pub loop-preserved : goal.loop-preserved
loop-preserved c =
    let made = c.in_ok-make.ensures in
    let q = c.in_ok-make.field-0 in
    rw c.in_ok-push.ensures.items (record {
      empty = empty-more c.loop.queues.items q c.loop.counter c.loop.invariant.empty (ap (λ (v : QueueView). v.queue) made);
      alike = All-push (λ (v : QueueView). v.threads ≡ c.args.threads) c.loop.queues.items q c.loop.invariant.alike (ap (λ (v : QueueView). v.threads) made);
    })
