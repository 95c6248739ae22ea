-- The laws of the legal histories of one object, as whole statements.
use Rattle.std.specs.Prelude.{◌≡◌, List}
use Rattle.tm_base.specs.declared.events.Entry.{Entry}
use Rattle.tm_base.specs.Histories.{Label, HistoryState, IsHistory, Follows, object_at}
use Rattle.tm_laws.specs.Tidy.{IsSound, Moves}

-- In the state that a legal history leaves no thread waits twice, and none waits once the object was
-- stopped.
abbrev pub HistoriesAreTidy : Type 0
HistoriesAreTidy = (l : Label) (es : List Entry) (p : HistoryState) → IsHistory l es p → IsSound (object_at l p.state)

-- Each event of a legal history makes the call of its thread pending exactly if its reply is `wait`, and
-- leaves the calls of all others as they are.
abbrev pub PendingMoves : Type 0
PendingMoves = (l : Label) (es : List Entry) (p : HistoryState) (e : Entry) (q : HistoryState)
    → IsHistory l es p → Follows l p e q → Moves (object_at l p.state) e.thread e.op e.reply q.state

-- A history leaves one state at most: the replies that it holds fix it.
abbrev pub HistoryLeavesOneState : Type 0
HistoryLeavesOneState = (l : Label) (es : List Entry) (p q : HistoryState) → IsHistory l es p → IsHistory l es q → p ≡ q

-- In the state that a legal history leaves a thread's operation has one reply at most: any two
-- events that may come next, of one thread with one operation, have the same.
abbrev pub AnswersAreFixed : Type 0
AnswersAreFixed = (l : Label) (es : List Entry) (p : HistoryState) (d e : Entry) (q r : HistoryState)
    → IsHistory l es p → Follows l p d q → Follows l p e r → d.thread ≡ e.thread → d.op ≡ e.op → d.reply ≡ e.reply
