use Rattle.std.proofs.Common.{◌≡◌, ◌<◌, length}
use Rattle.tm_base.specs.States.{grant_all}
use Rattle.tm_queues.proofs.granted_replies.Grants.grant_all.Given as goal

abbrev pub invariant-loop-thread : goal.invariant-loop-thread
invariant-loop-thread l = record {
  granted : grant_all l.queue.queue l.reply l.self ≡ grant_all l.initial.queue.queue l.reply l.initial.self;
  threads : l.queue.threads ≡ l.initial.queue.threads;
  places : length l.self ≡ length l.initial.self;
  room : l.queue.threads < length l.self;
}

abbrev pub decreases-loop-thread : goal.decreases-loop-thread
decreases-loop-thread l = length l.queue.queue
