-- Who owns a mutex, over its history.
use Rattle.std.specs.Prelude.{◌≡◌, ◌≢◌, ℕ, List, Option, Some, None, slice_get}
use Rattle.tm_base.specs.declared.operations.Op.TheVariants as op
use Rattle.tm_base.specs.declared.kinds.Kind.TheVariants as kind
use Rattle.tm_base.specs.declared.events.Entry.{Entry}
use Rattle.tm_base.specs.States.{State, KindState, MutexState, queued}
use Rattle.tm_base.specs.Histories.{Label, HistoryState, Follows, IsHistory}

-- The owner of a mutex in this state, if it has one.
abbrev pub owner_of : KindState → Option ℕ
owner_of (MutexState owner queue) = owner
owner_of own = None

-- The first in a queue, if it has one.
abbrev pub oldest_of : List ℕ → Option ℕ
oldest_of queue = slice_get queue 0

-- In one event of a mutex that this thread owns: the owner stays, unless the event is its own `unlock`,
-- and that hands the mutex to the oldest waiter, or to nobody where none waits.
pub record MovesFrom (owner : ℕ) (before : State) (e : Entry) (after : State) : Type 0 where
  pub only : owner_of after.kind_state ≢ Some owner → (e.op ≡ op.Unlock) × (e.thread ≡ owner)
  pub heir :
      e.op ≡ op.Unlock → e.thread ≡ owner → owner_of after.kind_state ≡ oldest_of (queued before.kind_state)

-- After every legal history of a mutex that some thread then owns, every next event is such an event.
abbrev pub OwnershipMoves : Type 0
OwnershipMoves =
    (l : Label) (es : List Entry) (p q : HistoryState) (e : Entry) (owner : ℕ) →
    l.kind ≡ kind.Mutex → IsHistory l es p → Follows l p e q → owner_of p.state.kind_state ≡ Some owner →
    MovesFrom owner p.state e q.state
