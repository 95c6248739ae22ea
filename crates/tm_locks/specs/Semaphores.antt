-- What contracts see of a semaphore.
use Rattle.std.specs.Prelude.{◌≤◌}
use Rattle.tm_base.specs.declared.kinds.Kind.TheVariants as kind
use Rattle.tm_base.specs.declared.limits.TheConstants.{GREATEST_SEMAPHORE_VALUE}
use Rattle.tm_base.specs.States.{SemState}
use Rattle.tm_base.specs.Machines.{ObjectView}
use Rattle.tm_locks.specs.declared.semaphores.SemM.TheInside.{Inside}

-- The object that the fields stand for.
abbrev pub sem_object : Inside → ObjectView
sem_object m = record {
  kind = kind.Sem m.start;
  threads = m.waiting.threads;
  state = record {
    kind_state = SemState m.value m.waiting.queue;
    granted = m.waiting.granted;
    stopped = m.waiting.stopped;
  };
}

-- The value isn't above the greatest one.
abbrev pub KeepsSem : Inside → Type 0
KeepsSem m = m.value ≤ GREATEST_SEMAPHORE_VALUE
