-- How many threads wait.
use Rattle.std.specs.Prelude.{◌≡◌, ℕ, zero, suc, ◌+◌, List, length}
use Rattle.tm_base.specs.declared.events.Entry.{Entry}
use Rattle.tm_base.specs.States.{State, queued, is_waiting}
use Rattle.tm_base.specs.Histories.{Label, HistoryState, IsHistory}
use Rattle.tm_laws.specs.Counts.{bit}

-- How many of the threads from 1 to n have a call that waits ungranted.
abbrev pub waiting_to : State → ℕ → ℕ
waiting_to s zero = 0
waiting_to s (suc n) = waiting_to s n + bit (is_waiting s (suc n))

-- In every state of a legal history the queues together are as long as there are threads that wait.
abbrev pub WaitersAreThreads : Type 0
WaitersAreThreads = (l : Label) (es : List Entry) (p : HistoryState) → IsHistory l es p → length (queued p.state.kind_state) ≡ waiting_to p.state l.threads
