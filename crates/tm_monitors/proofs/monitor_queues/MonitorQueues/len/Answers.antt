use Rattle.std.proofs.Common.{sym, ap, arith, length, length-append, add-one}
use Rattle.tm_base.specs.States.{all_of}
use Rattle.tm_queues.specs.WaitQueues.{QueueView}
use Rattle.tm_monitors.specs.StoredMonitorQueues.{lists_of}
use Rattle.tm_monitors.proofs.MonitorQueuesLemmas.{all_of-more}
use Rattle.tm_monitors.proofs.monitor_queues.MonitorQueues.len.Goals as goal

pub loop-queue-init : goal.loop-queue-init
loop-queue-init c =
    let l = c.self.inside in
    rw (c.deref-queue-items.ensures.value, ← c.self.view_is, c.len-waiting.ensures.value) (record {
      total = sym (length-append l.entrance.queue (all_of (lists_of l.conditions.items)));
      small = omega arith;
      few = c.self.invariant.few;
    })

pub loop-queue-preserved : goal.loop-queue-preserved
loop-queue-preserved c =
    let items = c.deref-queue-items.result.now in
    let n = c.loop-queue.queue-index in
    let q = c.queue-item.result in
    let here = ap (λ (v : QueueView). length v.queue) c.queue-item.is in
    let more = all_of-more items n q c.loop-queue-test.true in
    rw (add-one n) (record {
      total = omega (arith, here, more, c.len-waiting-in-loop-queue.ensures.value, c.loop-queue.invariant.total);
      small = omega (arith, c.len-waiting-in-loop-queue.ensures.few, c.loop-queue.invariant.small);
      few = c.loop-queue.invariant.few;
    })
