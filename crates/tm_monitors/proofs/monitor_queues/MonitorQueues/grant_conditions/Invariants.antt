use Rattle.std.proofs.Common.{◌≡◌, ◌<◌, ◌++◌, [], length, replicate, drop}
use Rattle.tm_base.specs.States.{all_of, grant_all}
use Rattle.tm_monitors.proofs.monitor_queues.MonitorQueues.grant_conditions.Given as goal

abbrev pub invariant-loop-condition : goal.invariant-loop-condition
invariant-loop-condition l = record {
  granted : grant_all (all_of (drop l.condition l.initial.self.conditions)) l.reply l.grants ≡ grant_all (all_of l.initial.self.conditions) l.reply l.initial.grants;
  threads : l.self.threads ≡ l.initial.self.threads;
  entrance : l.self.entrance ≡ l.initial.self.entrance;
  conditions : l.self.conditions ≡ replicate l.condition [] ++ drop l.condition l.initial.self.conditions;
  places : length l.grants ≡ length l.initial.grants;
  room : l.self.threads < length l.grants;
}
