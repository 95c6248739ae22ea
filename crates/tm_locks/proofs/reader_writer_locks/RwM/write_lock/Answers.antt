-- Who waits stands once in the queue.
use Rattle.std.proofs.Common.{rules, ◌≡◌, ◌≤◌, false, true}
use Rattle.tm_base.specs.States.{is_queued}
use Rattle.tm_queues.specs.ValuedQueues.{queued_threads}
use Rattle.tm_locks.proofs.ReaderWriterLocksLemmas.{once-joined}
use Rattle.tm_locks.proofs.reader_writer_locks.RwM.write_lock.Goals as goal

pub invariant_of-self-in-Wait : goal.invariant_of-self-in-Wait
invariant_of-self-in-Wait c =
    let known : c.args.thread ≤ c.self.inside.readers.threads = search rules in
    let new : is_queued c.self.inside.readers.queue c.args.thread ≡ false = search rules in
    let other : is_queued (queued_threads c.self.inside.queue.queue) c.args.thread ≡ false = search rules in
    record {
      threads = search rules;
      places = search rules;
      once = once-joined c.self.inside.readers.threads c.self.inside.readers.queue c.self.inside.queue c.push.new.self c.args.thread true c.push.ensures c.self.invariant.once known new other;
    }
