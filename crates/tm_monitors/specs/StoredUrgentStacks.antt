-- What a stored urgent stack keeps.
use Rattle.std.specs.Prelude.{◌≡◌, ℕ, ◌+◌, ◌<◌, ◌≤◌, false, length, slice_index_or}
use Rattle.std.specs.VecDeque.{deque_capacity}
use Rattle.tm_base.specs.declared.limits.TheConstants.{MOST_THREADS}
use Rattle.tm_base.specs.States.{is_queued}
use Rattle.tm_queues.specs.WaitQueues.{QueueView, IsQueue}
use Rattle.tm_monitors.specs.declared.urgent_stacks.UrgentStack.TheInside.{Inside}

-- The stack that the fields stand for, the newest first.
abbrev pub stack_view : Inside → QueueView
stack_view l = record { threads = l.threads; queue = l.stack.items }

-- There are few threads, each at most once on the stack; there is room for all of them; and each has a
-- place that says whether it stands there.
pub record KeepsStack (l : Inside) : Type 0 where
  pub few : l.threads ≤ MOST_THREADS
  pub stack : IsQueue l.threads l.stack.items
  pub room : l.threads < deque_capacity l.stack
  pub places : length l.stacks.items ≡ l.threads + 1
  pub stacked : (t : ℕ) → is_queued l.stack.items t ≡ slice_index_or l.stacks.items t false
