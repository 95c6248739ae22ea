-- What holds in every state of a legal history: no thread waits twice, and each that waits is a program
-- thread; and what each event does to the pending calls.
use Rattle.std.specs.Prelude.{◌≡◌, ℕ, ◌+◌, ◌≤◌, true, ◌||◌, ◌==◌, if◌then◌else◌, [], length, Some}
use Rattle.tm_base.specs.declared.operations.Op.{Op}
use Rattle.tm_base.specs.declared.operations.Op.TheVariants as op
use Rattle.tm_base.specs.declared.replies.Reply.{Reply}
use Rattle.tm_base.specs.declared.kinds.Kind.{Kind}
use Rattle.tm_base.specs.declared.kinds.Kind.TheVariants as kind
use Rattle.tm_base.specs.States.{KindState, State, MutexState, SemState, HoareState, MesaState, BarrierState, RwState, SyncState, AsyncState, ThreadObjectState, VarState, queued, grant_of, is_pending}
use Rattle.tm_base.specs.Machines.{ObjectView, changed}
use Rattle.tm_base.specs.Fits.{is_stop}
use Rattle.tm_laws.specs.Counts.{bit, occurrences, is_wait, is_grant}

-- The state is one of the kind; a monitor has the queues of its conditions.
abbrev pub IsStateOf : Kind → KindState → Type 0
IsStateOf kind.Mutex (MutexState owner queue) = Unit {0}
IsStateOf (kind.Sem start) (SemState value queue) = Unit {0}
IsStateOf (kind.Hoare count) (HoareState inside entrance urgent conditions) = length conditions ≡ count
IsStateOf (kind.Mesa count) (MesaState inside entrance conditions) = length conditions ≡ count
IsStateOf (kind.Barrier parties) (BarrierState queue) = Unit {0}
IsStateOf kind.Rw (RwState readers writer queue) = Unit {0}
IsStateOf kind.Sync (SyncState senders receivers closed) = Unit {0}
IsStateOf (kind.Async capacity) (AsyncState messages senders receivers closed) = Unit {0}
IsStateOf (kind.Thread own held) (ThreadObjectState started begun ended beginning joiners) = Unit {0}
IsStateOf (kind.Var start) (VarState value) = Unit {0}
IsStateOf k own = ⊥

-- There is a place for each thread's granted reply; who waits or was granted is a program thread, and
-- does it once; a granted reply is one that a call can be granted, and doesn't say that it waits; and
-- where the object was stopped nobody waits.
pub record IsTidy (threads : ℕ) (s : State) : Type 0 where
  pub long : length s.granted ≡ threads + 1
  pub known : (x : ℕ) → 1 ≤ occurrences s x → (1 ≤ x) × (x ≤ threads)
  pub once : (x : ℕ) → occurrences s x ≤ 1
  pub final : (x : ℕ) (r : Reply) → grant_of s x ≡ Some r → is_grant r ≡ true
  pub quiet : s.stopped ≡ true → queued s.kind_state ≡ []

-- The object's state is tidy, and the state of its kind is one of the kind.
pub record IsSound (h : ObjectView) : Type 0 where
  pub tidy : IsTidy h.threads h.state
  pub kind_state : IsStateOf h.kind h.state.kind_state

-- What a thread's event with this reply does to a sound object: it stays sound, the thread's call is
-- pending from now on exactly where the reply is `wait`, every other thread's as before, and only a stop
-- changes whether it was stopped.
pub record Moves (h : ObjectView) (t : ℕ) (o : Op) (r : Reply) (s' : State) : Type 0 where
  pub sound : IsSound (changed h s')
  pub occurrences : (u : ℕ) → occurrences s' u ≡ (if u == t then bit (is_wait r) else occurrences h.state u)
  pub pending : (u : ℕ) → is_pending s' u ≡ (if u == t then is_wait r else is_pending h.state u)
  pub stopped : s'.stopped ≡ (is_stop o || h.state.stopped)
