-- What contracts see of a barrier.
use Rattle.tm_base.specs.declared.kinds.Kind.TheVariants as kind
use Rattle.tm_base.specs.States.{BarrierState}
use Rattle.tm_base.specs.Machines.{ObjectView}
use Rattle.tm_locks.specs.declared.barriers.BarrierM.TheInside.{Inside}

-- The object that the fields stand for.
abbrev pub barrier_object : Inside → ObjectView
barrier_object m = record {
  kind = kind.Barrier m.parties;
  threads = m.waiting.threads;
  state = record {
    kind_state = BarrierState m.waiting.queue;
    granted = m.waiting.granted;
    stopped = m.waiting.stopped;
  };
}
