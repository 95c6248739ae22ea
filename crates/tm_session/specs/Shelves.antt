-- The books that a run leaves.
use Rattle.std.specs.Prelude.{◌≡◌, ℕ, List, length, slice_get, Some, flat_map}
use Rattle.tm_base.specs.declared.events.Entry.{Entry}
use Rattle.tm_base.specs.Histories.{IsHistory}
use Rattle.tm_base.specs.Orders.{of_object}
use Rattle.tm_book.specs.Books.{BookView, label_of, history_state_of}
use Rattle.tm_text.specs.declared.exercises.Declaration.{Declaration}
use Rattle.tm_text.specs.Exercises.{ExerciseView}

-- The book is that of the exercise's object of this number: it has the number, the kind that is declared
-- and the number of threads; and its entries are the object's events of these, in their order, which are
-- a legal history of the object.
pub record IsBookOf (x : ExerciseView) (events : List Entry) (o : ℕ) (b : BookView) : Type 0 where
  pub declaration : Declaration
  pub found : slice_get x.objects o ≡ Some declaration
  pub object : b.object ≡ o
  pub kind : b.machine.kind ≡ declaration.kind
  pub threads : b.machine.threads ≡ length x.programs
  pub entries : b.entries ≡ of_object events o
  pub history : IsHistory (label_of b) b.entries (history_state_of b)

-- There is one book for each object, in rising number.
pub record AreBooksOf (x : ExerciseView) (events : List Entry) (books : List BookView) : Type 0 where
  pub count : length books ≡ length x.objects
  pub each : (o : ℕ) (b : BookView) → slice_get books o ≡ Some b → IsBookOf x events o b

-- All entries of the books, book after book.
abbrev pub entries_of : List BookView → List Entry
entries_of books = flat_map (λ b. b.entries) books
