-- What contracts see of a synchronous channel.
use Rattle.tm_base.specs.declared.kinds.Kind.TheVariants as kind
use Rattle.tm_base.specs.States.{SyncState}
use Rattle.tm_base.specs.Machines.{ObjectView}
use Rattle.tm_channels.specs.declared.sync_channels.SyncM.TheInside.{Inside}

-- The object that the fields stand for.
abbrev pub sync_object : Inside → ObjectView
sync_object m = record {
  kind = kind.Sync;
  threads = m.queues.threads;
  state = record { kind_state = SyncState m.queues.senders m.queues.receivers m.queues.closed; granted = m.queues.granted; stopped = m.queues.stopped };
}
