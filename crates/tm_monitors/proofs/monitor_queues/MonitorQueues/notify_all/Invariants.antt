use Rattle.std.proofs.Common.{◌≡◌, ◌<◌, ◌++◌, length, slice_set}
use Rattle.tm_monitors.specs.MonitorQueues.{waiting_at}
use Rattle.tm_monitors.proofs.monitor_queues.MonitorQueues.notify_all.Given as goal

abbrev pub invariant-loop-thread : goal.invariant-loop-thread
invariant-loop-thread l = record {
  moved : l.self.entrance ++ waiting_at l.self.conditions l.condition ≡ l.initial.self.entrance ++ waiting_at l.initial.self.conditions l.condition;
  threads : l.self.threads ≡ l.initial.self.threads;
  conditions : l.self.conditions ≡ slice_set l.initial.self.conditions l.condition (waiting_at l.self.conditions l.condition);
  there : l.condition < length l.self.conditions;
}

abbrev pub decreases-loop-thread : goal.decreases-loop-thread
decreases-loop-thread l = length (waiting_at l.self.conditions l.condition)
