-- The readers that are left stand once among those that wait.
use Rattle.std.proofs.Common.{rules}
use Rattle.tm_queues.specs.ValuedQueues.{queued_threads}
use Rattle.tm_locks.proofs.ReadersLemmas.{IsQueue-prefix}
use Rattle.tm_locks.proofs.ReaderWriterLocksLemmas.{once-without}
use Rattle.tm_locks.proofs.reader_writer_locks.RwM.read_unlock.Goals as goal

pub take_out-requires : goal.take_out-requires
take_out-requires c = IsQueue-prefix c.self.inside.readers.threads c.self.inside.readers.queue (queued_threads c.self.inside.queue.queue) c.self.invariant.once

pub invariant_of-self : goal.invariant_of-self
invariant_of-self c = record {
  threads = search rules;
  places = search rules;
  once = once-without c.self.inside.readers c.take_out.new.queue c.args.thread (queued_threads c.self.inside.queue.queue) c.take_out.ensures c.self.invariant.once;
}
