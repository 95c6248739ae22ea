use Rattle.std.proofs.Common.{◌≡◌, ◌-◌}
use Rattle.tm_queues.specs.WaitQueues.{IsQueue}
use Rattle.tm_locks.proofs.ReadersLemmas.{passed, others}
use Rattle.tm_locks.proofs.readers.take_out.Given as goal

-- once those that are left have passed by, the others remain
abbrev pub invariant-loop-turn : goal.invariant-loop-turn
invariant-loop-turn l = record {
  left : passed l.thread (l._turn-end - l._turn) l.queue.queue ≡ others l.thread l.initial.queue.queue;
  once : IsQueue l.queue.threads l.queue.queue;
  threads : l.queue.threads ≡ l.initial.queue.threads;
}
