use Rattle.std.proofs.Common.{◌≡◌, ◌≤◌, ◌+◌, ◌*◌, length, drop}
use Rattle.tm_base.specs.States.{all_of}
use Rattle.tm_monitors.specs.MonitorQueues.{all_queued}
use Rattle.tm_monitors.specs.StoredMonitorQueues.{lists_of}
use Rattle.tm_monitors.proofs.monitor_queues.MonitorQueues.len.Given as goal

abbrev pub invariant-loop-queue : goal.invariant-loop-queue
invariant-loop-queue l = record {
  total : l.waiting + length (all_of (lists_of (drop l.queue-index l.queue-items))) ≡ length (all_queued l.self);
  small : l.waiting ≤ 65 * (l.queue-index + 1);
  few : length l.queue-items ≤ 255;
}
