-- How an event is made in a book.
use Rattle.std.specs.Prelude.{ℕ, length}
use Rattle.tm_base.specs.declared.operations.Op.{Op}
use Rattle.tm_base.specs.declared.events.Entry.{Entry}
use Rattle.tm_base.specs.Tickets.{TicketView}
use Rattle.tm_book.specs.Books.{BookView, IsEntered}
use Rattle.tm_replay.specs.JointStates.{ObjectState}

-- The object whose book this is, as a joint state has it.
abbrev pub object_state_of : BookView → ObjectState
object_state_of b = record { view = b.machine; at = length b.entries; stamp = b.stamp }

-- The entry was made in the book, which may have got room for it first.
pub record IsNoted (old : BookView) (before : TicketView) (o : Op) (e : Entry) (new : BookView) (later : TicketView) : Type 0 where
  pub spare : ℕ
  pub entered : IsEntered (record { object = old.object; machine = old.machine; entries = old.entries; stamp = old.stamp; spare = spare }) before o e new later
