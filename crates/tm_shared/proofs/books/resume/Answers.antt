use Rattle.std.proofs.Common.{refl, ◌∙◌, arith}
use Rattle.tm_base.specs.declared.operations.Op.TheVariants as op
use Rattle.tm_book.specs.Books.{label_of, history_state_of}
use Rattle.tm_shared.proofs.CallsLemmas.{made_some}
use Rattle.tm_shared.proofs.OwnEventsLemmas.{events-tell}
use Rattle.tm_shared.proofs.books.resume.Goals as goal

pub finish-requires-clause-pending : goal.finish-requires-clause-pending
finish-requires-clause-pending c =
    let b = c.args.book.now in
    let tell = events-tell (label_of b) b.entries (history_state_of b) c.entries-history.ensures.legal in
    tell.pending c.args.ticket.now.thread ∙ c.requires.waits

pub finish-requires-clause-clock : goal.finish-requires-clause-clock
finish-requires-clause-clock c =
    let b = c.args.book.now in
    let tell = events-tell (label_of b) b.entries (history_state_of b) c.entries-history.ensures.legal in
    omega (arith, tell.stamp, tell.own_stamp c.args.ticket.now.thread, c.requires.clock)

pub returns-clause-made : goal.returns-clause-made
returns-clause-made c =
    made_some c.args.book.now c.args.book.now c.finish.new.self c.args.ticket.now c.finish.new.ticket op.Resume c.entries-history.ensures.legal refl c.finish.result c.finish.ensures.entered
