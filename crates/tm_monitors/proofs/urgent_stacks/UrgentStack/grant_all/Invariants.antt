use Rattle.std.proofs.Common.{◌≡◌, ◌<◌, length}
use Rattle.tm_base.specs.States.{grant_all}
use Rattle.tm_monitors.proofs.urgent_stacks.UrgentStack.grant_all.Given as goal

abbrev pub invariant-loop-thread : goal.invariant-loop-thread
invariant-loop-thread l = record {
  granted : grant_all l.self.queue l.reply l.grants ≡ grant_all l.initial.self.queue l.reply l.initial.grants;
  threads : l.self.threads ≡ l.initial.self.threads;
  places : length l.grants ≡ length l.initial.grants;
  room : l.self.threads < length l.grants;
}

abbrev pub decreases-loop-thread : goal.decreases-loop-thread
decreases-loop-thread l = length l.self.queue
