use Rattle.std.proofs.Common.{sym, subst}
use Rattle.tm_base.specs.declared.operations.Op.{Op}
use Rattle.tm_session.specs.Noting.{IsNoted}
use Rattle.tm_session.proofs.book_calls.enter.Goals as goal

pub returns-in-Resume-clause-entered : goal.returns-in-Resume-clause-entered
returns-in-Resume-clause-entered c =
    subst (λ (o : Op). IsNoted c.args.book.now c.args.ticket.now o c.unwrap.result c.finish.new.self c.finish.new.ticket) (sym c.in-Resume.is)
    (record { spare = c.args.book.now.spare; entered = rw c.unwrap.ensures at c.finish.ensures.entered })

pub returns-in-Stop-clause-entered : goal.returns-in-Stop-clause-entered
returns-in-Stop-clause-entered c =
    subst (λ (o : Op). IsNoted c.args.book.now c.args.ticket.now o c.unwrap-in-Stop.result c.stop.new.self c.stop.new.ticket) (sym c.in-Stop.is)
    (record { spare = c.args.book.now.spare; entered = rw c.unwrap-in-Stop.ensures at c.stop.ensures.entered })
