-- What a stored queue keeps.
use Rattle.std.specs.Prelude.{◌≡◌, ℕ, ◌+◌, ◌≤◌, ◌<◌, Bool, false, List, length, slice_index_or}
use Rattle.std.specs.VecDeque.{deque_capacity}
use Rattle.tm_queues.specs.declared.wait_queues.WaitQueue.TheInside.{Inside}
use Rattle.tm_base.specs.declared.limits.TheConstants.{MOST_THREADS}
use Rattle.tm_base.specs.States.{is_queued}
use Rattle.tm_queues.specs.WaitQueues.{QueueView, IsQueue}

-- The queue that the fields stand for.
abbrev pub queue_view : Inside → QueueView
queue_view l = record { threads = l.threads; queue = l.queue.items }

-- Each thread's mark says whether it stands in the queue.
pub record MarksQueue (marks : List Bool) (queue : List ℕ) : Type 0 where
  pub each : (t : ℕ) → slice_index_or marks t false ≡ is_queued queue t

-- There are few threads, each at most once in the queue, there is room for all of them, and each has a mark.
pub record KeepsQueue (l : Inside) : Type 0 where
  pub few : l.threads ≤ MOST_THREADS
  pub queue : IsQueue l.threads l.queue.items
  pub room : l.threads < deque_capacity l.queue
  pub places : length l.standing.items ≡ l.threads + 1
  pub marks : MarksQueue l.standing.items l.queue.items
