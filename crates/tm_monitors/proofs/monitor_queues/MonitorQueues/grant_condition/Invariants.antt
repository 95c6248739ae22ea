use Rattle.std.proofs.Common.{◌≡◌, ◌<◌, length}
use Rattle.tm_base.specs.States.{grant_all}
use Rattle.tm_monitors.specs.MonitorQueues.{with_condition, waiting_at}
use Rattle.tm_monitors.proofs.monitor_queues.MonitorQueues.grant_condition.Given as goal

abbrev pub invariant-loop-thread : goal.invariant-loop-thread
invariant-loop-thread l = record {
  granted : grant_all (waiting_at l.self.conditions l.condition) l.reply l.grants ≡ grant_all (waiting_at l.initial.self.conditions l.condition) l.reply l.initial.grants;
  self : l.self ≡ with_condition l.initial.self l.condition (waiting_at l.self.conditions l.condition);
  places : length l.grants ≡ length l.initial.grants;
  room : l.self.threads < length l.grants;
  there : l.condition < length l.self.conditions;
}

abbrev pub decreases-loop-thread : goal.decreases-loop-thread
decreases-loop-thread l = length (waiting_at l.self.conditions l.condition)
