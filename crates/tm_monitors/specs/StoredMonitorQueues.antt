-- What the stored queues of a monitor keep.
use Rattle.std.specs.Prelude.{◌≡◌, ℕ, ◌+◌, ◌≤◌, Bool, false, List, ◌++◌, length, map, slice_index_or}
use Rattle.std.specs.List.{All}
use Rattle.tm_base.specs.States.{all_of}
use Rattle.tm_laws.specs.Counts.{bit, count_in}
use Rattle.tm_queues.specs.WaitQueues.{QueueView}
use Rattle.tm_monitors.specs.declared.monitor_queues.MonitorQueues.TheInside.{Inside}
use Rattle.tm_monitors.specs.MonitorQueues.{QueuesView}

-- Who stands in each of the queues.
abbrev pub lists_of : List QueueView → List (List ℕ)
lists_of queues = map (λ q. q.queue) queues

-- The queues that the fields stand for.
abbrev pub queues_view : Inside → QueuesView
queues_view l = record {
  threads = l.entrance.threads;
  entrance = l.entrance.queue;
  conditions = lists_of l.conditions.items;
}

-- Each thread stands in the queue once where its flag says so, and else never.
pub record AreTold (queue : List ℕ) (flags : List Bool) : Type 0 where
  pub count : (t : ℕ) → count_in queue t ≡ bit (slice_index_or flags t false)

-- All queues are of the same threads; each thread has a flag that says whether it stands in a queue; and it
-- stands in one of them at most, once.
pub record KeepsQueues (l : Inside) : Type 0 where
  pub few : length l.conditions.items ≤ 255
  pub alike : All (λ q. q.threads ≡ l.entrance.threads) l.conditions.items
  pub places : length l.waits.items ≡ l.entrance.threads + 1
  pub told : AreTold (l.entrance.queue ++ all_of (lists_of l.conditions.items)) l.waits.items
