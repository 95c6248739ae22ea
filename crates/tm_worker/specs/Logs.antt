-- What a thread has recorded: its passes of the objects, its ticket, and what its outbox sent.
use Rattle.std.specs.Prelude.{◌≡◌, ℕ, suc, ◌<◌, ◌≤◌, ◌+◌, max, false, List, ◌∷◌, ◌++◌, [], length, slice_get, Some}
use Rattle.tm_base.specs.declared.operations.Op.{Op}
use Rattle.tm_base.specs.declared.events.Entry.{Entry}
use Rattle.tm_base.specs.Machines.{is_in}
use Rattle.tm_base.specs.Orders.{of_object, last_stamp}
use Rattle.tm_base.specs.Runs.{Leads}
use Rattle.tm_base.specs.Tickets.{TicketView, opening, advanced}
use Rattle.tm_ring.specs.Rings.{OutboxView}
use Rattle.tm_shared.specs.OwnEvents.{ends_waiting}
use Rattle.tm_turn.specs.Passes.{PassView, mine}
use Rattle.tm_turn.specs.Prefixes.{StartsWith}

-- A thread's passes, one for each object by its number, its ticket, and its outbox.
pub record LogView : Type 0 where
  pub passes : List PassView
  pub ticket : TicketView
  pub outbox : OutboxView

abbrev pub log_of : List PassView → TicketView → OutboxView → LogView
log_of passes ticket outbox = record { passes = passes; ticket = ticket; outbox = outbox }

-- The event is the next one of the thread with this ticket, on one of the objects. There it stands in the history
-- that the thread's pass has seen, and its stamp is 1 plus the greater of the thread's last stamp and the one
-- directly before it there (Lamport, CACM 1978). The ticket goes on by it.
pub record IsOwnStep (passes : List PassView) (before : TicketView) (e : Entry) (later : TicketView) : Type 0 where
  pub thread : e.thread ≡ before.thread
  pub place : e.place ≡ before.next
  pub pass : PassView
  pub found : slice_get passes e.object ≡ Some pass
  pub earlier : List Entry
  pub behind : List Entry
  pub seen : pass.seen ≡ earlier ++ e ∷ behind
  pub stamp : e.stamp ≡ suc (max before.clock (last_stamp earlier))
  pub ticket : later ≡ advanced before e

-- What each pass says of what was sent. It is the thread's, of the object with its number, and doesn't hold the
-- turn. Its own events are those sent on the object, and the last of them waits exactly where the ticket says so,
-- and is then the thread's last.
pub record IsOwnPass (ticket : TicketView) (sent : List Entry) (object : ℕ) (p : PassView) : Type 0 where
  pub number : p.number ≡ ticket.thread
  pub of : p.label.object ≡ object
  pub idle : p.holds ≡ false
  pub own : of_object sent object ≡ mine p
  pub waits : ends_waiting (mine p) ≡ is_in ticket.waits object
  pub clock : ticket.waits ≡ Some object → ticket.clock ≡ last_stamp (mine p)

-- What was sent are the thread's own events in order, from place 1, and the passes and the ticket tell of them.
pub record KeepsLog (passes : List PassView) (ticket : TicketView) (sent : List Entry) : Type 0 where
  pub run : Leads (IsOwnStep passes) (opening ticket.thread) sent ticket
  pub each : (k : ℕ) (p : PassView) → slice_get passes k ≡ Some p → IsOwnPass ticket sent k p
  pub there : (k : ℕ) → ticket.waits ≡ Some k → k < length passes

-- The same pass, which may have seen more, won the turn more often, and lost it more often.
pub record IsSamePass (old new : PassView) : Type 0 where
  pub same : new ≡ record old { seen = new.seen; turns = new.turns; misses = new.misses; missed = new.missed }
  pub begins : StartsWith new.seen old.seen
  pub turns : old.turns ≤ new.turns
  pub misses : old.misses ≤ new.misses

-- The same passes.
pub record AreSamePasses (old new : List PassView) : Type 0 where
  pub count : length new ≡ length old
  pub each : (k : ℕ) (p q : PassView) → slice_get old k ≡ Some p → slice_get new k ≡ Some q → IsSamePass p q

-- The event was made on the object by the operation, and sent once.
pub record IsSent (old : LogView) (o : ℕ) (p : Op) (e : Entry) (new : LogView) : Type 0 where
  pub object : e.object ≡ o
  pub op : e.op ≡ p
  pub step : IsOwnStep new.passes old.ticket e new.ticket
  pub sent : new.outbox.sent ≡ old.outbox.sent ++ e ∷ []
  pub ring : new.outbox.ring ≡ old.outbox.ring
  pub spare : old.outbox.spare ≤ new.outbox.spare + 1

-- Nothing was made.
pub record IsUnsent (old new : LogView) : Type 0 where
  pub ticket : new.ticket ≡ old.ticket
  pub outbox : new.outbox ≡ old.outbox

-- The pass of this object, and what became of it.
pub record AtPass (old new : List PassView) (object : ℕ) (Changed : PassView → PassView → Type 0) : Type 0 where
  pub before : PassView
  pub after : PassView
  pub found : slice_get old object ≡ Some before
  pub now : slice_get new object ≡ Some after
  pub changed : Changed before after
