-- What a stored queue with values keeps.
use Rattle.std.specs.Prelude.{◌≡◌, ℕ, ◌+◌, List, [], ◌∷◌, Option, None, Some, length, slice_get}
use Rattle.tm_base.specs.States.{Waiter}
use Rattle.tm_queues.specs.WaitQueues.{QueueView, IsQueue}
use Rattle.tm_queues.specs.ValuedQueues.{ValuedView}

-- The thread with the value at its place, before others. A thread without a place doesn't count.
abbrev pub before : {A : Type 0} → ℕ → Option A → List (Waiter A) → List (Waiter A)
before t None others = others
before t (Some v) others = (record { thread = t; value = v }) ∷ others

-- Each thread of a queue with the value at its place.
abbrev pub with_values : {A : Type 0} → List A → List ℕ → List (Waiter A)
with_values values [] = []
with_values values (t ∷ queue) = before t (slice_get values t) (with_values values queue)

-- The queue that the fields stand for.
abbrev pub valued_view : {A : Type 0} → QueueView → List A → ValuedView A
valued_view queue values = record { threads = queue.threads; queue = with_values values queue.queue }

-- Each thread has a place for its value, and those in the queue stand there once.
pub record KeepsValues {A : Type 0} (queue : QueueView) (values : List A) : Type 0 where
  pub places : length values ≡ queue.threads + 1
  pub known : IsQueue queue.threads queue.queue
