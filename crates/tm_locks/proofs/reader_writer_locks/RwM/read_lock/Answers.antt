-- Who reads or waits stands once among all of them.
use Rattle.std.proofs.Common.{rules, ◌≡◌, ◌≤◌, false}
use Rattle.tm_base.specs.States.{is_queued}
use Rattle.tm_queues.specs.ValuedQueues.{queued_threads}
use Rattle.tm_locks.proofs.ReaderWriterLocksLemmas.{once-pushed, once-joined}
use Rattle.tm_locks.proofs.reader_writer_locks.RwM.read_lock.Goals as goal

pub invariant_of-self : goal.invariant_of-self
invariant_of-self c =
    let known : c.args.thread ≤ c.self.inside.readers.threads = search rules in
    let new : is_queued c.self.inside.readers.queue c.args.thread ≡ false = search rules in
    let other : is_queued (queued_threads c.self.inside.queue.queue) c.args.thread ≡ false = search rules in
    record {
      threads = search rules;
      places = search rules;
      once = once-pushed c.self.inside.readers c.push.new.self c.args.thread (queued_threads c.self.inside.queue.queue) c.push.ensures c.self.invariant.once known new other;
    }

pub invariant_of-self-in-Wait : goal.invariant_of-self-in-Wait
invariant_of-self-in-Wait c =
    let known : c.args.thread ≤ c.self.inside.readers.threads = search rules in
    let new : is_queued c.self.inside.readers.queue c.args.thread ≡ false = search rules in
    let other : is_queued (queued_threads c.self.inside.queue.queue) c.args.thread ≡ false = search rules in
    record {
      threads = search rules;
      places = search rules;
      once = once-joined c.self.inside.readers.threads c.self.inside.readers.queue c.self.inside.queue c.push-in-Wait.new.self c.args.thread false c.push-in-Wait.ensures c.self.invariant.once known new other;
    }
