-- The queues of a monitor: its entrance, and one for each of its conditions.
use Rattle.std.specs.Prelude.{◌≡◌, ℕ, List, [], ◌∷◌, ◌++◌, map, replicate, drop, Option, Some, MatchOption}
use Rattle.std.specs.Prelude.{slice_get, slice_index_or, slice_set}
use Rattle.tm_base.specs.States.{all_of}

-- The greatest number of a thread, and who stands in each queue, the oldest first.
pub record QueuesView : Type 0 where
  pub threads : ℕ
  pub entrance : List ℕ
  pub conditions : List (List ℕ)

-- The queues of so many conditions, in which nobody stands.
abbrev pub empty_queues : ℕ → ℕ → QueuesView
empty_queues threads count = record { threads = threads; entrance = []; conditions = replicate count [] }

-- All that stand in a queue, first at the entrance and then at each condition in turn.
abbrev pub all_queued : QueuesView → List ℕ
all_queued v = v.entrance ++ all_of v.conditions

-- The same with another queue at the entrance.
abbrev pub with_entrance : QueuesView → List ℕ → QueuesView
with_entrance v queue = record { threads = v.threads; entrance = queue; conditions = v.conditions }

-- The same with another queue at the condition.
abbrev pub with_condition : QueuesView → ℕ → List ℕ → QueuesView
with_condition v c queue = record {
  threads = v.threads;
  entrance = v.entrance;
  conditions = slice_set v.conditions c queue;
}

-- Who waits at the condition.
abbrev pub waiting_at : List (List ℕ) → ℕ → List ℕ
waiting_at conditions c = slice_index_or conditions c []

-- Who waits there behind the oldest.
abbrev pub behind_first : List (List ℕ) → ℕ → List ℕ
behind_first conditions c = drop 1 (waiting_at conditions c)

-- The thread is the oldest that waits at the condition, or nobody waits there.
abbrev pub IsFirstAt : List (List ℕ) → ℕ → Option ℕ → Type 0
IsFirstAt conditions c first =
    MatchOption first (slice_get conditions c ≡ Some [])
    (λ t. slice_get conditions c ≡ Some (t ∷ behind_first conditions c))

-- The queues after the condition's oldest left, if somebody waits there.
abbrev pub AreLeftBy : QueuesView → ℕ → Option ℕ → QueuesView → Type 0
AreLeftBy v c first w = MatchOption first (w ≡ v) (λ t. w ≡ with_condition v c (behind_first v.conditions c))

-- The oldest that waits at the condition went to the end of the entrance, if there is one.
abbrev pub notified : QueuesView → ℕ → List ℕ → QueuesView
notified v c [] = v
notified v c (t ∷ waiting) = record {
  threads = v.threads;
  entrance = v.entrance ++ t ∷ [];
  conditions = slice_set v.conditions c waiting;
}

-- All that wait at the condition went to the end of the entrance, in their order.
abbrev pub all_notified : QueuesView → ℕ → QueuesView
all_notified v c = record {
  threads = v.threads;
  entrance = v.entrance ++ waiting_at v.conditions c;
  conditions = slice_set v.conditions c [];
}

-- Nobody waits at any condition.
abbrev pub without_conditions : QueuesView → QueuesView
without_conditions v = record {
  threads = v.threads;
  entrance = v.entrance;
  conditions = map (λ _. []) v.conditions;
}
