use Rattle.std.proofs.Common.{refl, ◌∙◌}
use Rattle.tm_base.specs.declared.operations.Op.TheVariants as op
use Rattle.tm_book.specs.Books.{label_of, history_state_of}
use Rattle.tm_shared.proofs.CallsLemmas.{made_some}
use Rattle.tm_shared.proofs.OwnEventsLemmas.{events-tell}
use Rattle.tm_shared.proofs.books.stop.Goals as goal

pub returns-clause-made : goal.returns-clause-made
returns-clause-made c =
    made_some c.args.book.now c.args.book.now c.stop.new.self c.args.ticket.now c.stop.new.ticket op.Stop c.entries-history.ensures.legal refl c.stop.result c.stop.ensures.entered

pub returns-clause-none : goal.returns-clause-none
returns-clause-none c =
    let b = c.args.book.now in
    let tell = events-tell (label_of b) b.entries (history_state_of b) c.entries-history.ensures.legal in
    c.stop.ensures.none ∙ tell.stopped
