use Rattle.std.proofs.Common.{◌≡◌, ◌<◌, ◌++◌, length}
use Rattle.tm_base.specs.declared.replies.Reply.TheVariants as reply
use Rattle.tm_base.specs.States.{grant_all}
use Rattle.tm_base.specs.ReaderWriter.{first_readers, after_readers}
use Rattle.tm_queues.specs.WaitQueues.{IsQueue}
use Rattle.tm_queues.specs.ValuedQueues.{queued_threads}
use Rattle.tm_locks.proofs.readers.admit_readers.Given as goal

-- what is left to admit is admitted as all was
abbrev pub invariant-loop-thread : goal.invariant-loop-thread
invariant-loop-thread l = record {
  inside : l.readers.queue ++ first_readers l.queue.queue ≡ l.initial.readers.queue ++ first_readers l.initial.queue.queue;
  left : after_readers l.queue.queue ≡ after_readers l.initial.queue.queue;
  granted : grant_all (first_readers l.queue.queue) reply.Ok l.grants ≡ grant_all (first_readers l.initial.queue.queue) reply.Ok l.initial.grants;
  places : length l.grants ≡ length l.initial.grants;
  threads : l.readers.threads ≡ l.initial.readers.threads;
  waiters : l.queue.threads ≡ l.initial.queue.threads;
  room : l.readers.threads < length l.grants;
  once : IsQueue l.readers.threads (l.readers.queue ++ queued_threads l.queue.queue);
}

abbrev pub decreases-loop-thread : goal.decreases-loop-thread
decreases-loop-thread l = length l.queue.queue
