-- Who waits at a channel.
use Rattle.std.specs.Prelude.{◌≡◌, ℕ, ◌+◌, ℤ, Bool, false, ◌||◌, List, [], ◌∷◌, ◌++◌, Option, Some, None, is_some, replicate, slice_set, slice_index_or, MatchOption}
use Rattle.tm_base.specs.declared.replies.Reply.{Reply}
use Rattle.tm_base.specs.declared.replies.Reply.TheVariants as reply
use Rattle.tm_base.specs.States.{Waiter, is_queued, grant_all}
use Rattle.tm_queues.specs.ValuedQueues.{queued_threads}

-- The greatest number of a thread, the senders that wait, each with its message, and the receivers, the
-- oldest first, the granted reply of each thread, from thread 0, and whether the channel was closed and
-- whether it was stopped.
pub record ChannelQueuesView : Type 0 where
  pub threads : ℕ
  pub senders : List (Waiter ℤ)
  pub receivers : List ℕ
  pub granted : List (Option Reply)
  pub closed : Bool
  pub stopped : Bool

-- Nobody waits at an open channel, and nobody was granted a reply.
abbrev pub nobody_at_channel : ℕ → ChannelQueuesView
nobody_at_channel threads = record { threads = threads; senders = []; receivers = []; granted = replicate (threads + 1) None; closed = false; stopped = false }

-- The threads that wait: the senders, and then the receivers.
abbrev pub waiting_at : ChannelQueuesView → List ℕ
waiting_at q = queued_threads q.senders ++ q.receivers

-- The thread waits, or was granted a reply that it hasn't taken.
abbrev pub is_pending_at : ChannelQueuesView → ℕ → Bool
is_pending_at q t = is_queued (waiting_at q) t || is_some (slice_index_or q.granted t None)

-- The thread waits with its message, behind the other senders.
abbrev pub sender_added : ChannelQueuesView → ℕ → ℤ → ChannelQueuesView
sender_added q t k = record q { senders = q.senders ++ record { thread = t; value = k } ∷ [] }

-- The thread waits for a message, behind the other receivers.
abbrev pub receiver_added : ChannelQueuesView → ℕ → ChannelQueuesView
receiver_added q t = record q { receivers = q.receivers ++ t ∷ [] }

-- The oldest receiver is granted the message, or no receiver waits.
abbrev pub GivesReceiver : ChannelQueuesView → ℤ → Option ℕ → ChannelQueuesView → Type 0
GivesReceiver q k head q' =
    MatchOption head ((q.receivers ≡ []) × (q' ≡ q))
    (λ t. (q.receivers ≡ t ∷ q'.receivers) × (q' ≡ record q { receivers = q'.receivers; granted = slice_set q.granted t (Some (reply.Got k)) }))

-- The oldest sender is granted `ok`, and its message is taken, or no sender waits.
abbrev pub TakesSender : ChannelQueuesView → Option (ℕ × ℤ) → ChannelQueuesView → Type 0
TakesSender q head q' =
    MatchOption head ((q.senders ≡ []) × (q' ≡ q))
    (λ w. (q.senders ≡ record { thread = w.0; value = w.1 } ∷ q'.senders) × (q' ≡ record q { senders = q'.senders; granted = slice_set q.granted w.0 (Some reply.Ok) }))

-- All that wait are granted the reply.
abbrev pub all_served : ChannelQueuesView → Reply → ChannelQueuesView
all_served q r = record q { senders = []; receivers = []; granted = grant_all (waiting_at q) r q.granted }
