-- A queue of threads, each with a value.
use Rattle.std.specs.Prelude.{ℕ, List, [], ◌∷◌, ◌++◌, map}
use Rattle.tm_base.specs.States.{Waiter}

-- The greatest number of a thread that may stand in the queue, and who does, each with its value, the oldest first.
pub record ValuedView (A : Type 0) : Type 0 where
  pub threads : ℕ
  pub queue : List (Waiter A)

-- The queue in which nobody stands.
abbrev pub nobody_queued : {A : Type 0} → ℕ → ValuedView A
nobody_queued threads = record { threads = threads; queue = [] }

-- The queue after the thread went to its end with the value.
abbrev pub joined : {A : Type 0} → ValuedView A → ℕ → A → ValuedView A
joined queue t v = record { threads = queue.threads; queue = queue.queue ++ (record { thread = t; value = v }) ∷ [] }

-- The threads that stand in a queue with values.
abbrev pub queued_threads : {A : Type 0} → List (Waiter A) → List ℕ
queued_threads queue = map (λ w. w.thread) queue
