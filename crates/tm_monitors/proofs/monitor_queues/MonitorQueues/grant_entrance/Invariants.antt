use Rattle.std.proofs.Common.{◌≡◌, ◌<◌, length}
use Rattle.tm_base.specs.States.{grant_all}
use Rattle.tm_monitors.proofs.monitor_queues.MonitorQueues.grant_entrance.Given as goal

abbrev pub invariant-loop-thread : goal.invariant-loop-thread
invariant-loop-thread l = record {
  granted : grant_all l.self.entrance l.reply l.grants ≡ grant_all l.initial.self.entrance l.reply l.initial.grants;
  threads : l.self.threads ≡ l.initial.self.threads;
  conditions : l.self.conditions ≡ l.initial.self.conditions;
  places : length l.grants ≡ length l.initial.grants;
  room : l.self.threads < length l.grants;
}

abbrev pub decreases-loop-thread : goal.decreases-loop-thread
decreases-loop-thread l = length l.self.entrance
