use Rattle.std.proofs.Common.{◌≡◌, false, Some, subst}
use Rattle.tm_base.specs.States.{grant_of, is_waiting}
use Rattle.tm_book.specs.AnyMachines.{any_object}
use Rattle.tm_book.specs.Books.{BookView}
use Rattle.tm_book.proofs.BooksLemmas.{granted-ready}
use Rattle.tm_book.proofs.books.Book.finish.Goals as goal

pub returns-clause-none : goal.returns-clause-none
returns-clause-none c =
    let h = any_object c.self.inside.machine in
    let granted : grant_of h.state c.thread.result ≡ Some c.in_ok-poll.field-0 = cc (c.poll.ensures.value, c.in_ok-poll.was) in
    let here = granted-ready h c.thread.result c.in_ok-poll.field-0 c.self.invariant.sound granted in
    subst (λ (b : BookView). false ≡ is_waiting b.machine.state c.args.ticket.now.thread) c.self.view_is
    (subst (λ t. false ≡ is_waiting h.state t) c.thread.ensures here)
