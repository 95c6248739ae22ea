use Rattle.std.proofs.Common.{◌+◌, ◌-◌, arith}
use Rattle.std.specs.Vec.{vec_capacity}
use Rattle.tm_book.proofs.BooksLemmas.{IsKept-start}
use Rattle.tm_book.proofs.books.Book.make.Goals as goal

pub invariant_of-result : goal.invariant_of-result
invariant_of-result c =
    let entries = c.in_ok-entries.entries in
    let due = c.owed_at_start-owed.result in
    rw (c.in_ok-machine.ensures, c.in_ok-entries.ensures.items)
    (IsKept-start c.args.object c.args.kind c.args.threads due (vec_capacity entries - (0 + due)) (vec_capacity entries) c.owed_at_start-owed.ensures
    (omega (arith, c.in_ok-entries.ensures.capacity)))
