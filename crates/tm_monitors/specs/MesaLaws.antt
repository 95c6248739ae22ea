-- Who is inside a Mesa monitor, over its history.
use Rattle.std.specs.Prelude.{◌≡◌, ◌⊎◌, ℕ, List}
use Rattle.tm_base.specs.declared.operations.Op.TheVariants as op
use Rattle.tm_base.specs.declared.kinds.Kind.TheVariants as kind
use Rattle.tm_base.specs.declared.events.Entry.{Entry}
use Rattle.tm_base.specs.Histories.{Label, HistoryState, Follows, IsHistory}
use Rattle.tm_monitors.specs.MonitorStates.{inside_of}

-- After every legal history of a Mesa monitor a `signal` or a `broadcast` leaves inside whoever is inside.
abbrev pub NotifyingLetsNobodyIn : Type 0
NotifyingLetsNobodyIn =
    (l : Label) (count : ℕ) (es : List Entry) (p : HistoryState) (e : Entry) (q : HistoryState) (c : ℕ) →
    l.kind ≡ kind.Mesa count → IsHistory l es p → Follows l p e q →
    (e.op ≡ op.Signal c) ⊎ (e.op ≡ op.Broadcast c) →
    inside_of q.state.kind_state ≡ inside_of p.state.kind_state
