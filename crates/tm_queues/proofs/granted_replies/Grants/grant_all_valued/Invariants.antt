use Rattle.std.proofs.Common.{◌≡◌, ◌<◌, length}
use Rattle.tm_base.specs.States.{grant_all}
use Rattle.tm_queues.specs.ValuedQueues.{queued_threads}
use Rattle.tm_queues.proofs.granted_replies.Grants.grant_all_valued.Given as goal

abbrev pub invariant-loop-thread : goal.invariant-loop-thread
invariant-loop-thread g l = record {
  granted : grant_all (queued_threads l.queue.queue) l.reply l.self ≡ grant_all (queued_threads l.initial.queue.queue) l.reply l.initial.self;
  threads : l.queue.threads ≡ l.initial.queue.threads;
  places : length l.self ≡ length l.initial.self;
  room : l.queue.threads < length l.self;
}

abbrev pub decreases-loop-thread : goal.decreases-loop-thread
decreases-loop-thread g l = length l.queue.queue
