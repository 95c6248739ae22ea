-- What a stored wait state keeps.
use Rattle.std.specs.Prelude.{◌≡◌, ◌+◌, length}
use Rattle.tm_queues.specs.declared.wait_states.WaitState.TheInside.{Inside}
use Rattle.tm_queues.specs.WaitStates.{WaitView}

-- The wait state that the fields stand for.
abbrev pub wait_view : Inside → WaitView
wait_view d = record { threads = d.queue.threads; queue = d.queue.queue; granted = d.grants; stopped = d.stopped }

-- Each thread has a place for its granted reply.
abbrev pub KeepsWaits : Inside → Type 0
KeepsWaits d = length d.grants ≡ d.queue.threads + 1
