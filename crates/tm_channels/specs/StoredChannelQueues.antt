-- What the stored queues of a channel keep.
use Rattle.std.specs.Prelude.{◌≡◌, ◌+◌, length}
use Rattle.tm_channels.specs.declared.channel_queues.ChannelQueues.TheInside.{Inside}
use Rattle.tm_channels.specs.ChannelQueues.{ChannelQueuesView}

-- The queues that the fields stand for.
abbrev pub channel_queues_view : Inside → ChannelQueuesView
channel_queues_view q = record { threads = q.receivers.threads; senders = q.senders.queue; receivers = q.receivers.queue; granted = q.grants; closed = q.closed; stopped = q.stopped }

-- Both queues are of the same threads, and each thread has a place for its granted reply.
pub record KeepsChannelQueues (q : Inside) : Type 0 where
  pub same : q.senders.threads ≡ q.receivers.threads
  pub places : length q.grants ≡ q.receivers.threads + 1
