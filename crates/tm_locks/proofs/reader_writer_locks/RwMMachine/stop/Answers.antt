-- The readers stay, and nobody waits.
use Rattle.std.proofs.Common.{rules}
use Rattle.tm_queues.specs.ValuedQueues.{queued_threads}
use Rattle.tm_locks.proofs.ReaderWriterLocksLemmas.{once-nobody}
use Rattle.tm_locks.proofs.reader_writer_locks.RwMMachine.stop.Goals as goal

pub invariant_of-self : goal.invariant_of-self
invariant_of-self c = record {
  threads = search rules;
  places = search rules;
  once = once-nobody c.self.inside.readers.threads c.self.inside.readers.queue (queued_threads c.self.inside.queue.queue) c.grant_all_valued.new.queue c.self.inside.queue.threads c.grant_all_valued.ensures.queue c.self.invariant.once;
}
