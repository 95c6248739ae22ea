-- One object's history, with the room for the events that it owes.
use Rattle.std.specs.Prelude.{◌≡◌, ℕ, suc, ◌+◌, ◌^◌, ◌≤◌, max, List, [], ◌∷◌, ◌++◌, length}
use Rattle.tm_base.specs.declared.operations.Op.{Op}
use Rattle.tm_base.specs.declared.events.Entry.{Entry}
use Rattle.tm_base.specs.Machines.{ObjectView, changed}
use Rattle.tm_base.specs.Histories.{Label, HistoryState, IsHistory, Lawful, CanAnswer}
use Rattle.tm_base.specs.Tickets.{TicketView, IsReady, advanced}
use Rattle.tm_laws.specs.Counts.{bit, is_wait}
use Rattle.tm_laws.specs.Tidy.{IsSound}
use Rattle.tm_laws.specs.Owed.{owed, paid}

-- What contracts see of a book: the object's number, its machine, its events in order, its last
-- stamp (0 where there is none), and how many places are free beyond those that are owed.
pub record BookView : Type 0 where
  pub object : ℕ
  pub machine : ObjectView
  pub entries : List Entry
  pub stamp : ℕ
  pub spare : ℕ

-- The object of the book.
abbrev pub label_of : BookView → Label
label_of b = record { object = b.object; kind = b.machine.kind; threads = b.machine.threads }

-- How far the book has come.
abbrev pub history_state_of : BookView → HistoryState
history_state_of b = record { at = length b.entries; stamp = b.stamp; state = b.machine.state }

-- What holds of every book that counts this many owed events and has this many places: its events
-- are a legal history of its object from the start, its machine is sound, no stamp has run ahead of
-- the events by more than 2^62, the count is what the machine owes, and the owed events have their
-- places.
pub record IsKept (b : BookView) (due capacity : ℕ) : Type 0 where
  pub history : IsHistory (label_of b) b.entries (history_state_of b)
  pub sound : IsSound b.machine
  pub bounded : b.stamp ≤ 2 ^ 62 + length b.entries
  pub owes : due ≡ owed b.machine
  pub room : length b.entries + due ≤ capacity

-- Two places are free beyond the owed ones, where the operation pays for none: one for its entry,
-- and one for the resume that it may come to owe.
abbrev pub HasRoom : BookView → Op → Type 0
HasRoom b o = paid o ≡ 0 → 2 ≤ b.spare

-- The thread of the ticket can make the operation in the book: the object has a lawful event with
-- both, and the thread is ready for it.
pub record CanEnter (b : BookView) (p : TicketView) (o : Op) : Type 0 where
  pub answers : CanAnswer b.machine p.thread o
  pub ready : IsReady p.waits b.object o

-- The thread of the ticket `before` made the entry in the old book, and it leaves the new book and
-- the ticket `later`. In turn: it has the thread of the ticket, and the place that the ticket has
-- for it; it is of the book's object, and has the operation; its place in the object is one more
-- than the last; its stamp is one more than the greater of both last stamps; it is a lawful event,
-- which leaves the state of the new machine; the machine changes in its state alone; the object
-- stays; the entry stands at the end; its stamp is the last; of the free places go its own, and one
-- more where it waits, and those that it paid for come; and the ticket goes on by it.
pub record IsEntered (old : BookView) (before : TicketView) (o : Op) (e : Entry) (new : BookView) (later : TicketView) : Type 0 where
  pub thread : e.thread ≡ before.thread
  pub place : e.place ≡ before.next
  pub object : e.object ≡ old.object
  pub op : e.op ≡ o
  pub at : e.at ≡ suc (length old.entries)
  pub stamp : e.stamp ≡ suc (max before.clock old.stamp)
  pub lawful : Lawful old.machine e.thread e.op e.reply new.machine.state
  pub machine : new.machine ≡ changed old.machine new.machine.state
  pub same_object : new.object ≡ old.object
  pub entries : new.entries ≡ old.entries ++ e ∷ []
  pub now_stamp : new.stamp ≡ e.stamp
  pub spare : new.spare + (1 + bit (is_wait e.reply)) ≡ old.spare + paid o
  pub ticket : later ≡ advanced before e
