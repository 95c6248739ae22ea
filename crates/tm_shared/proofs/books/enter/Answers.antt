use Rattle.std.proofs.Common.{ap, sym, subst}
use Rattle.tm_base.specs.Machines.{CanStep}
use Rattle.tm_book.specs.Books.{label_of, history_state_of}
use Rattle.tm_shared.proofs.CallsLemmas.{made}
use Rattle.tm_shared.proofs.OwnEventsLemmas.{events-tell}
use Rattle.tm_shared.proofs.books.enter.Goals as goal

pub enter-requires-clause-may : goal.enter-requires-clause-may
enter-requires-clause-may c =
    let b = c.args.book.now in
    let tell = events-tell (label_of b) b.entries (history_state_of b) c.entries-history.ensures.legal in
    subst (λ m. CanStep m c.args.ticket.now.thread c.args.op) (ap (λ x. x.machine) (sym c.make_room.ensures.same)) (tell.may c.args.ticket.now.thread c.args.op c.requires.may)

pub returns-clause-made : goal.returns-clause-made
returns-clause-made c =
    made c.args.book.now c.make_room.new.book c.enter.new.self c.args.ticket.now c.enter.new.ticket c.args.op c.entries-history.ensures.legal c.make_room.ensures.same c.enter.result c.enter.ensures
