-- A queue of threads.
use Rattle.std.specs.Prelude.{◌≡◌, ℕ, ◌≤◌, false, List, [], ◌∷◌, ◌++◌}
use Rattle.tm_base.specs.States.{is_queued}

-- The greatest number of a thread that may stand in the queue, and who does, the oldest first.
pub record QueueView : Type 0 where
  pub threads : ℕ
  pub queue : List ℕ

-- The queue in which nobody stands.
abbrev pub empty_queue : ℕ → QueueView
empty_queue threads = record { threads = threads; queue = [] }

-- The queue after the thread went to its end.
abbrev pub pushed : QueueView → ℕ → QueueView
pushed queue t = record { threads = queue.threads; queue = queue.queue ++ t ∷ [] }

-- No thread stands in the queue twice, and each is one of those there are.
abbrev pub IsQueue : ℕ → List ℕ → Type 0
IsQueue threads [] = Unit {0}
IsQueue threads (t ∷ queue) = (t ≤ threads) × (is_queued queue t ≡ false) × IsQueue threads queue
