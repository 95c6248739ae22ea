use Rattle.std.proofs.Common.{refl, sym, subst}
use Rattle.tm_base.specs.declared.operations.Op.TheVariants as op
use Rattle.tm_worker.specs.Standings.{Stands, is_own_at}
use Rattle.tm_worker.proofs.StepsLemmas.{waits_next, stands_sent, stands_unsent, lost_at, sends_none}
use Rattle.tm_worker.proofs.steps.resume.Goals as goal

pub returns-in-Ok-clause-stands : goal.returns-in-Ok-clause-stands
returns-in-Ok-clause-stands g c =
    subst (λ s. Stands g.B.Body.over c.args.limit s c.try_finish.new.self) (sym c.go_on.ensures)
    (stands_sent g.B.Body.over c.args.limit c.args.shared.now c.args.progress.now c.args.log.now c.requires.stands c.requires.suits c.requires.own
    c.try_finish.new.self c.args.object op.Resume c.in-Ok.entry c.in-Ok.ensures.sent c.try_finish.ensures.passes
    (λ _. c.in-Ok.ensures.free)
    (waits_next (is_own_at c.args.shared.now c.args.log.now.ticket.thread) c.args.progress.now.phase c.args.object c.requires.next))

pub returns-in-Err-NotYet-clause-stands : goal.returns-in-Err-NotYet-clause-stands
returns-in-Err-NotYet-clause-stands g c =
    stands_unsent g.B.Body.over c.args.limit c.args.shared.now c.args.progress.now c.args.log.now c.requires.stands c.requires.suits c.requires.own
    c.try_finish.new.self c.in-Err-NotYet.ensures.unsent c.try_finish.ensures.passes

pub returns-in-Err-Busy-clause-stands : goal.returns-in-Err-Busy-clause-stands
returns-in-Err-Busy-clause-stands g c =
    stands_unsent g.B.Body.over c.args.limit c.args.shared.now c.args.progress.now c.args.log.now c.requires.stands c.requires.suits c.requires.own
    c.try_finish.new.self c.in-Err-Busy.ensures.unsent c.try_finish.ensures.passes

pub returns-in-Err-Busy-clause-attempts : goal.returns-in-Err-Busy-clause-attempts
returns-in-Err-Busy-clause-attempts g c = (
  refl,
  sends_none c.args.log.now c.try_finish.new.self c.in-Err-Busy.ensures.unsent,
  lost_at (is_own_at c.args.shared.now c.args.log.now.ticket.thread) c.args.progress.now.phase c.args.log.now c.try_finish.new.self c.in-Err-Busy.holder c.args.object op.Resume
      (waits_next (is_own_at c.args.shared.now c.args.log.now.ticket.thread) c.args.progress.now.phase c.args.object c.requires.next) (rw c.in-Err-Busy.field-0-is at c.in-Err-Busy.ensures.fault),
)
