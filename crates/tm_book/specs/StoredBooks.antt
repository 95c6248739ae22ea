-- What a stored book keeps.
use Rattle.std.specs.Prelude.{◌+◌, ◌-◌, length}
use Rattle.std.specs.Vec.{vec_capacity}
use Rattle.tm_book.specs.AnyMachines.{any_object}
use Rattle.tm_book.specs.Books.{BookView, IsKept}
use Rattle.tm_book.specs.declared.books.Book.TheInside.{Inside}

-- The book that the fields stand for.
abbrev pub book_view : Inside → BookView
book_view b =
    record {
      object = b.object;
      machine = any_object b.machine;
      entries = b.entries.items;
      stamp = b.stamp;
      spare = vec_capacity b.entries - (length b.entries.items + b.owed);
    }

-- The fields keep the book: its events are legal, and its owed ones have their places.
abbrev pub KeepsBook : Inside → Type 0
KeepsBook b = IsKept (book_view b) b.owed (vec_capacity b.entries)
