use Rattle.std.proofs.Common.{◌≡◌, length}
use Rattle.tm_queues.proofs.wait_queues.WaitQueue.clear.Given as goal

abbrev pub invariant-loop : goal.invariant-loop
invariant-loop l = l.self.threads ≡ l.initial.self.threads

abbrev pub decreases-loop : goal.decreases-loop
decreases-loop l = length l.self.queue
