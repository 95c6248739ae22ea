-- How many messages an asynchronous channel keeps.
use Rattle.std.specs.Prelude.{◌≡◌, ℕ, ◌≤◌, List, length}
use Rattle.tm_base.specs.declared.kinds.Kind.TheVariants as kind
use Rattle.tm_base.specs.declared.events.Entry.{Entry}
use Rattle.tm_base.specs.Histories.{Label, HistoryState, IsHistory}
use Rattle.tm_channels.specs.Deliveries.{messages_of}

-- In every state of a legal history an asynchronous channel keeps at most its capacity of messages.
abbrev pub CapacityIsKept : Type 0
CapacityIsKept = (l : Label) (capacity : ℕ) (es : List Entry) (p : HistoryState) → l.kind ≡ kind.Async capacity → IsHistory l es p → length (messages_of p.state.kind_state) ≤ capacity
