-- What each call of a shared object leaves.
use Rattle.std.specs.Prelude.{◌≡◌, ◌≢◌, ℕ, suc, ◌<◌, ◌≤◌, max, true, false, List, [], ◌∷◌, ◌++◌, length}
use Rattle.tm_base.specs.declared.operations.Op.{Op}
use Rattle.tm_base.specs.declared.events.Entry.{Entry}
use Rattle.tm_base.specs.States.{is_waiting}
use Rattle.tm_base.specs.Histories.{Label, HistoryState, IsHistory}
use Rattle.tm_base.specs.Tickets.{TicketView, advanced}
use Rattle.tm_base.specs.Orders.{last_stamp}
use Rattle.tm_turn.specs.Prefixes.{StartsWith}
use Rattle.tm_turn.specs.Passes.{PassView, mine}
use Rattle.tm_shared.specs.OwnEvents.{has_stop}

-- The events are a legal history of the object.
abbrev pub IsLegal : Label → List Entry → Type 0
IsLegal l es = (p : HistoryState) × IsHistory l es p

-- The events are a legal history of the object, after which the thread's call waits, and was granted no reply.
abbrev pub StillWaits : Label → List Entry → ℕ → Type 0
StillWaits l es t = (p : HistoryState) × IsHistory l es p × (is_waiting p.state t ≡ true)

-- The pass won the turn at its one attempt: nothing but what it has seen and that mark changes. What it has
-- seen now is the whole history, which is legal, and it begins with what it had seen.
pub record TookTurn (l : Label) (old new : PassView) : Type 0 where
  pub pass : new ≡ record old { seen = new.seen; turns = suc old.turns }
  pub begins : StartsWith new.seen old.seen
  pub legal : IsLegal l new.seen

-- The same, after any number of attempts.
pub record TookTurns (l : Label) (old new : PassView) : Type 0 where
  pub pass : new ≡ record old { seen = new.seen; turns = new.turns; misses = new.misses; missed = new.missed }
  pub turns : old.turns < new.turns
  pub misses : old.misses ≤ new.misses
  pub begins : StartsWith new.seen old.seen
  pub legal : IsLegal l new.seen

-- The pass lost the turn to another pass, whose number this is: it keeps the word that it read, and nothing
-- else of it changes.
pub record LostTurn (old : PassView) (holder : ℕ) (new : PassView) : Type 0 where
  pub pass : new ≡ record old { misses = suc old.misses; missed = suc holder }
  pub other : holder ≢ old.number

-- The thread of the ticket `before` made the entry on the object, whose events were `was` and are `now`, and
-- the ticket is `later` now. In turn: it has the thread of the ticket, and the place that the ticket has for
-- it; it is of the object, and has the operation; it stands at the end of the history, at its place; its stamp
-- is one more than the greater of the thread's last stamp and the object's; and the ticket goes on by it.
pub record IsMade (l : Label) (before : TicketView) (o : Op) (e : Entry) (was now : List Entry) (later : TicketView) : Type 0 where
  pub thread : e.thread ≡ before.thread
  pub place : e.place ≡ before.next
  pub object : e.object ≡ l.object
  pub op : e.op ≡ o
  pub ends : now ≡ was ++ e ∷ []
  pub at : e.at ≡ length now
  pub stamp : e.stamp ≡ suc (max before.clock (last_stamp was))
  pub ticket : later ≡ advanced before e

-- The pass added the entry to the history, which was `was` at its turn. That begins with what the pass had
-- seen, with no event more of its own. So its own events are more by just the entry.
pub record IsAdded (l : Label) (old : PassView) (before : TicketView) (o : Op) (e : Entry) (new : PassView) (later : TicketView) : Type 0 where
  pub was : List Entry
  pub begins : StartsWith was old.seen
  pub made : IsMade l before o e was new.seen later
  pub mine : mine new ≡ mine old ++ e ∷ []

-- The entry ends the events, and is their first `stop`.
pub record IsFirstStop (events : List Entry) (e : Entry) : Type 0 where
  pub before : List Entry
  pub ends : events ≡ before ++ e ∷ []
  pub none : has_stop before ≡ false
