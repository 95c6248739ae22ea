-- What contracts see of a mutex.
use Rattle.tm_base.specs.declared.kinds.Kind.TheVariants as kind
use Rattle.tm_base.specs.States.{MutexState}
use Rattle.tm_base.specs.Machines.{ObjectView}
use Rattle.tm_locks.specs.declared.mutexes.MutexM.TheInside.{Inside}

-- The object that the fields stand for.
abbrev pub mutex_object : Inside → ObjectView
mutex_object m = record {
  kind = kind.Mutex;
  threads = m.waiting.threads;
  state = record {
    kind_state = MutexState m.owner m.waiting.queue;
    granted = m.waiting.granted;
    stopped = m.waiting.stopped;
  };
}
