-- How a thread came to its end, as a whole statement.
use Rattle.std.specs.Prelude.{◌≡◌, true, List, Contains}
use Rattle.tm_base.specs.declared.events.Entry.{Entry}
use Rattle.tm_base.specs.Histories.{Label, HistoryState, IsHistory}
use Rattle.tm_laws.specs.ThreadObjects.{has_ended, is_end}

-- Where a legal history leaves the thread of its object ended, one of its events is an `end`.
abbrev pub ThreadsEndByAnEnd : Type 0
ThreadsEndByAnEnd = (l : Label) (es : List Entry) (p : HistoryState) → IsHistory l es p → has_ended p.state.kind_state ≡ true
    → (e : Entry) × Contains es e × (is_end e.op ≡ true)
