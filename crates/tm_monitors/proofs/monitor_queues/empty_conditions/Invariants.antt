use Rattle.std.proofs.Common.{◌≡◌, [], replicate}
use Rattle.std.specs.List.{All}
use Rattle.tm_monitors.specs.StoredMonitorQueues.{lists_of}
use Rattle.tm_monitors.proofs.monitor_queues.empty_conditions.Given as goal

abbrev pub invariant-loop : goal.invariant-loop
invariant-loop l = record {
  empty : lists_of l.queues.items ≡ replicate l.counter [];
  alike : All (λ q. q.threads ≡ l.threads) l.queues.items;
}
