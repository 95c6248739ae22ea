-- A wait state: a queue of threads with their granted replies.
use Rattle.std.specs.Prelude.{◌≡◌, ℕ, ◌+◌, Bool, false, true, ◌||◌, List, [], ◌∷◌, ◌++◌, Option, None, Some, is_some, replicate, slice_set, slice_index_or, MatchBool, MatchOption}
use Rattle.tm_base.specs.declared.replies.Reply.{Reply}
use Rattle.tm_base.specs.declared.replies.Reply.TheVariants as reply
use Rattle.tm_base.specs.States.{is_queued, grant_all}

-- The greatest number of a thread, who stands in the queue, the oldest first, the granted reply of each
-- thread, from thread 0, and whether the wait state was stopped.
pub record WaitView : Type 0 where
  pub threads : ℕ
  pub queue : List ℕ
  pub granted : List (Option Reply)
  pub stopped : Bool

-- The wait state at which nobody waits and nobody was granted a reply.
abbrev pub nobody_waiting : ℕ → WaitView
nobody_waiting threads = record { threads = threads; queue = []; granted = replicate (threads + 1) None; stopped = false }

-- The same wait state with another queue and other granted replies.
abbrev pub served : WaitView → List ℕ → List (Option Reply) → WaitView
served d queue granted = record { threads = d.threads; queue = queue; granted = granted; stopped = d.stopped }

-- The thread's call waits, or on a stopped wait state the reply is `stopped` and nothing changes.
abbrev pub WaitsAt : WaitView → ℕ → Reply → WaitView → Type 0
WaitsAt d t r d' =
    MatchBool d.stopped ((r ≡ reply.Stopped) × (d' ≡ d)) ((r ≡ reply.Wait) × (d' ≡ served d (d.queue ++ t ∷ []) d.granted))

-- The oldest in the queue leaves it and is granted the reply, or nobody stands in the queue.
abbrev pub GrantsHead : WaitView → Reply → Option ℕ → WaitView → Type 0
GrantsHead d r head d' =
    MatchOption head ((d.queue ≡ []) × (d' ≡ d)) (λ h. (d.queue ≡ h ∷ d'.queue) × (d' ≡ served d d'.queue (slice_set d.granted h (Some r))))

-- All that stand in the queue leave it and are granted the reply.
abbrev pub all_granted : WaitView → Reply → WaitView
all_granted d r = served d [] (grant_all d.queue r d.granted)

-- The thread stands in the queue, or was granted a reply that it hasn't taken.
abbrev pub is_pending_in : WaitView → ℕ → Bool
is_pending_in d t = is_queued d.queue t || is_some (slice_index_or d.granted t None)

-- The wait state after `stop`.
abbrev pub stopped_waits : WaitView → WaitView
stopped_waits d = record { threads = d.threads; queue = []; granted = grant_all d.queue reply.Stopped d.granted; stopped = true }
