-- What the fields of a ring's ends stand for, while all that was sent stays in the backlog.
use Rattle.std.specs.Prelude.{◌-◌, [], length}
use Rattle.std.specs.Vec.{vec_capacity}
use Rattle.tm_ring.specs.Rings.{OutboxView, InboxView}
use Rattle.tm_ring.specs.declared.outboxes.Outbox.TheInside.{Inside as OutboxFields}
use Rattle.tm_ring.specs.declared.inboxes.Inbox.TheInside.{Inside as InboxFields}

abbrev pub outbox_view : OutboxFields → OutboxView
outbox_view o =
    record {
      ring = o.ring.value;
      sent = o.backlog.items;
      spare = vec_capacity o.backlog - length o.backlog.items;
      waiting = length o.backlog.items;
      free = 0;
    }

-- Nothing was taken, and nothing is known to be on its way.
abbrev pub inbox_view : InboxFields → InboxView
inbox_view i = record { ring = i.ring.value; received = []; known = [] }
