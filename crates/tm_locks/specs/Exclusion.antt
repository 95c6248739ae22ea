-- Who is inside a reader-writer lock, and who waits.
use Rattle.std.specs.Prelude.{◌≡◌, ◌≢◌, ℕ, Bool, true, List, [], Option, Some, None, ◌⊎◌, slice_get}
use Rattle.tm_base.specs.declared.kinds.Kind.TheVariants as kind
use Rattle.tm_base.specs.declared.events.Entry.{Entry}
use Rattle.tm_base.specs.States.{KindState, Waiter, RwState}
use Rattle.tm_base.specs.Histories.{Label, HistoryState, IsHistory}

-- The readers inside a reader-writer lock in this state, in the order in which they came.
abbrev pub readers_of : KindState → List ℕ
readers_of (RwState readers writer queue) = readers
readers_of own = []

-- The writer inside it, if there is one.
abbrev pub writer_of : KindState → Option ℕ
writer_of (RwState readers writer queue) = writer
writer_of own = None

-- Who waits for it, and whether to write, the oldest first.
abbrev pub waiters_of : KindState → List (Waiter Bool)
waiters_of (RwState readers writer queue) = queue
waiters_of own = []

-- There is no reader, or no writer; while a reader is inside, the oldest that waits wants to write; and
-- while a thread waits, somebody is inside.
pub record IsExclusive (own : KindState) : Type 0 where
  pub apart : (readers_of own ≡ []) ⊎ (writer_of own ≡ None)
  pub next_writes :
      readers_of own ≢ [] → (oldest : Waiter Bool) → slice_get (waiters_of own) 0 ≡ Some oldest →
      oldest.value ≡ true
  pub in_use : waiters_of own ≢ [] → (readers_of own ≢ []) ⊎ (writer_of own ≢ None)

-- After every legal history a reader-writer lock is such.
abbrev pub ReaderWriterExclusion : Type 0
ReaderWriterExclusion =
    (l : Label) (es : List Entry) (p : HistoryState) →
    l.kind ≡ kind.Rw → IsHistory l es p → IsExclusive p.state.kind_state
