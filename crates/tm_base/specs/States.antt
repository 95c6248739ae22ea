-- The states of the ten kinds of machine, as plain data.
use Rattle.std.specs.Prelude.{ℕ, ◌+◌, ℤ, Bool, true, false, not, ◌||◌, ◌==◌, is_some, List, [], ◌∷◌, ◌++◌, map, replicate, slice_set, slice_index_or, Option, Some, None}
use Rattle.std.specs.List.{list_any}
use Rattle.tm_base.specs.declared.replies.Reply.{Reply}
use Rattle.tm_base.specs.declared.replies.Reply.TheVariants as reply
use Rattle.tm_base.specs.declared.kinds.Kind.{Kind}
use Rattle.tm_base.specs.declared.kinds.Kind.TheVariants as kind

-- A thread that waits, with a value: a sender's message, or whether it wants to write.
pub record Waiter (A : Type 0) : Type 0 where
  pub thread : ℕ
  pub value : A

-- The state of a kind: what it keeps beside granted replies and `stopped`. A queue's head is its oldest thread, but
-- in the urgent stack of a Hoare monitor it is the newest. `beginning` holds the thread object's own
-- thread while that waits in `begin`.
pub data KindState : Type 0 where
  MutexState : (owner : Option ℕ) (queue : List ℕ) → KindState
  SemState : (value : ℕ) (queue : List ℕ) → KindState
  HoareState : (inside : Option ℕ) (entrance urgent : List ℕ) (conditions : List (List ℕ)) → KindState
  MesaState : (inside : Option ℕ) (entrance : List ℕ) (conditions : List (List ℕ)) → KindState
  BarrierState : (queue : List ℕ) → KindState
  RwState : (readers : List ℕ) (writer : Option ℕ) (queue : List (Waiter Bool)) → KindState
  SyncState : (senders : List (Waiter ℤ)) (receivers : List ℕ) (closed : Bool) → KindState
  AsyncState : (messages : List ℤ) (senders : List (Waiter ℤ)) (receivers : List ℕ) (closed : Bool) → KindState
  ThreadObjectState : (started begun ended : Bool) (beginning joiners : List ℕ) → KindState
  VarState : (value : ℤ) → KindState

-- The state of an object: the state of its kind, the granted reply of each thread, from thread 0, and
-- whether it was stopped.
pub record State : Type 0 where
  pub kind_state : KindState
  pub granted : List (Option Reply)
  pub stopped : Bool

-- What a kind's object begins with.
abbrev pub start_kind_state : Kind → KindState
start_kind_state kind.Mutex = MutexState None []
start_kind_state (kind.Sem value) = SemState value []
start_kind_state (kind.Hoare conditions) = HoareState None [] [] (replicate conditions [])
start_kind_state (kind.Mesa conditions) = MesaState None [] (replicate conditions [])
start_kind_state (kind.Barrier parties) = BarrierState []
start_kind_state kind.Rw = RwState [] None []
start_kind_state kind.Sync = SyncState [] [] false
start_kind_state (kind.Async capacity) = AsyncState [] [] [] false
start_kind_state (kind.Thread own held) = ThreadObjectState (not held) false false [] []
start_kind_state (kind.Var value) = VarState value

-- The state of an object that a number of threads, and `main`, may use, before its first event.
abbrev pub start_state : Kind → ℕ → State
start_state k threads = record { kind_state = start_kind_state k; granted = replicate (threads + 1) None; stopped = false }

-- The threads that stand in a list of queues.
abbrev pub all_of : List (List ℕ) → List ℕ
all_of [] = []
all_of (queue ∷ queues) = queue ++ all_of queues

-- All threads whose call waits ungranted, as often as they stand in a queue.
abbrev pub queued : KindState → List ℕ
queued (MutexState owner queue) = queue
queued (SemState value queue) = queue
queued (HoareState inside entrance urgent conditions) = entrance ++ (urgent ++ all_of conditions)
queued (MesaState inside entrance conditions) = entrance ++ all_of conditions
queued (BarrierState queue) = queue
queued (RwState readers writer queue) = map (λ w. w.thread) queue
queued (SyncState senders receivers closed) = map (λ s. s.thread) senders ++ receivers
queued (AsyncState messages senders receivers closed) = map (λ s. s.thread) senders ++ receivers
queued (ThreadObjectState started begun ended beginning joiners) = beginning ++ joiners
queued (VarState value) = []

-- The same with empty queues.
abbrev pub emptied : KindState → KindState
emptied (MutexState owner queue) = MutexState owner []
emptied (SemState value queue) = SemState value []
emptied (HoareState inside entrance urgent conditions) = HoareState inside [] [] (map (λ _. []) conditions)
emptied (MesaState inside entrance conditions) = MesaState inside [] (map (λ _. []) conditions)
emptied (BarrierState queue) = BarrierState []
emptied (RwState readers writer queue) = RwState readers writer []
emptied (SyncState senders receivers closed) = SyncState [] [] closed
emptied (AsyncState messages senders receivers closed) = AsyncState messages [] [] closed
emptied (ThreadObjectState started begun ended beginning joiners) = ThreadObjectState started begun ended [] []
emptied (VarState value) = VarState value

-- The thread stands in the queue.
abbrev pub is_queued : List ℕ → ℕ → Bool
is_queued queue t = list_any (λ x. x == t) queue

-- The reply that the thread was granted and hasn't taken yet.
abbrev pub grant_of : State → ℕ → Option Reply
grant_of s t = slice_index_or s.granted t None

-- The thread's call waits ungranted.
abbrev pub is_waiting : State → ℕ → Bool
is_waiting s t = is_queued (queued s.kind_state) t

-- The thread's call waits, or was granted and isn't resumed.
abbrev pub is_pending : State → ℕ → Bool
is_pending s t = is_waiting s t || is_some (grant_of s t)

-- The same with another state of the kind.
abbrev pub with_state : State → KindState → State
with_state s next = record { kind_state = next; granted = s.granted; stopped = s.stopped }

-- One reply for each thread of the list.
abbrev pub grant_all : List ℕ → Reply → List (Option Reply) → List (Option Reply)
grant_all [] r granted = granted
grant_all (t ∷ ts) r granted = grant_all ts r (slice_set granted t (Some r))

-- The same with another state of the kind, in which these threads, taken out of the queues, are granted
-- the reply.
abbrev pub granting : State → KindState → List ℕ → Reply → State
granting s next ts r = record { kind_state = next; granted = grant_all ts r s.granted; stopped = s.stopped }

-- The state after the thread took its granted reply.
abbrev pub resumed : State → ℕ → State
resumed s t = record { kind_state = s.kind_state; granted = slice_set s.granted t None; stopped = s.stopped }

-- The state after `stop`: all that wait are granted `stopped`, so that no queue has anyone.
abbrev pub halted : State → State
halted s = record { kind_state = emptied s.kind_state; granted = grant_all (queued s.kind_state) reply.Stopped s.granted; stopped = true }
