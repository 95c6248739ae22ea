-- What contracts see of an asynchronous channel.
use Rattle.std.specs.Prelude.{◌≤◌, length}
use Rattle.std.specs.VecDeque.{deque_capacity}
use Rattle.tm_base.specs.declared.kinds.Kind.TheVariants as kind
use Rattle.tm_base.specs.States.{AsyncState}
use Rattle.tm_base.specs.Machines.{ObjectView}
use Rattle.tm_channels.specs.declared.async_channels.AsyncM.TheInside.{Inside}

-- The object that the fields stand for.
abbrev pub async_object : Inside → ObjectView
async_object m = record {
  kind = kind.Async m.capacity;
  threads = m.queues.threads;
  state = record { kind_state = AsyncState m.messages.items m.queues.senders m.queues.receivers m.queues.closed; granted = m.queues.granted; stopped = m.queues.stopped };
}

-- No more messages are kept than the capacity, for which there is room.
pub record KeepsMessages (m : Inside) : Type 0 where
  pub within : length m.messages.items ≤ m.capacity
  pub room : m.capacity ≤ deque_capacity m.messages
