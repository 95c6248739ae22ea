use Rattle.std.proofs.Common.{refl, sym, subst}
use Rattle.tm_worker.specs.Standings.{Stands, is_own_at}
use Rattle.tm_worker.specs.Turning.{LostAtNext}
use Rattle.tm_worker.proofs.StepsLemmas.{asked_next, asked_no_resume, can_call, stands_sent, stands_unsent, stands_short, lost_at, sends_none}
use Rattle.tm_worker.proofs.steps.call.Goals as goal

pub try_begin-requires-clause-can : goal.try_begin-requires-clause-can
try_begin-requires-clause-can g c =
    can_call g.B.Body.over c.args.limit c.args.shared.now c.args.progress.now c.args.log.now c.requires.stands c.requires.suits c.requires.own c.args.object c.args.op c.requires.next

pub returns-in-Err-NoMemory-clause-stands : goal.returns-in-Err-NoMemory-clause-stands
returns-in-Err-NoMemory-clause-stands g c =
    subst (λ s. Stands g.B.Body.over c.args.limit s c.try_begin.new.self) (sym c.give_up.ensures)
    (stands_short g.B.Body.over c.args.limit c.args.shared.now c.args.progress.now c.args.log.now c.requires.stands c.requires.suits c.requires.own
    c.args.object c.args.op c.try_begin.new.self c.requires.next c.in-Err-NoMemory.ensures.unsent c.try_begin.ensures.passes)

pub returns-in-Ok-clause-stands : goal.returns-in-Ok-clause-stands
returns-in-Ok-clause-stands g c =
    subst (λ s. Stands g.B.Body.over c.args.limit s c.try_begin.new.self) (sym c.go_on.ensures)
    (stands_sent g.B.Body.over c.args.limit c.args.shared.now c.args.progress.now c.args.log.now c.requires.stands c.requires.suits c.requires.own
    c.try_begin.new.self c.args.object c.args.op c.in-Ok.entry c.in-Ok.ensures.sent c.try_begin.ensures.passes
    (λ r. absurd (asked_no_resume g.B.Body.over c.args.limit c.args.shared.now c.args.progress.now c.args.log.now c.requires.stands c.requires.suits c.requires.own c.args.object c.args.op c.requires.next r))
    (asked_next (is_own_at c.args.shared.now c.args.log.now.ticket.thread) c.args.progress.now.phase c.args.object c.args.op c.requires.next))

pub returns-in-Err-Busy-clause-stands : goal.returns-in-Err-Busy-clause-stands
returns-in-Err-Busy-clause-stands g c =
    stands_unsent g.B.Body.over c.args.limit c.args.shared.now c.args.progress.now c.args.log.now c.requires.stands c.requires.suits c.requires.own
    c.try_begin.new.self c.in-Err-Busy.ensures.unsent c.try_begin.ensures.passes

pub returns-in-Err-Busy-clause-attempts : goal.returns-in-Err-Busy-clause-attempts
returns-in-Err-Busy-clause-attempts g c =
    let lost : LostAtNext (is_own_at c.args.shared.now c.args.log.now.ticket.thread) c.args.progress.now.phase c.args.log.now c.try_begin.new.self c.in-Err-Busy.holder =
    lost_at (is_own_at c.args.shared.now c.args.log.now.ticket.thread) c.args.progress.now.phase c.args.log.now c.try_begin.new.self c.in-Err-Busy.holder c.args.object c.args.op
    (asked_next (is_own_at c.args.shared.now c.args.log.now.ticket.thread) c.args.progress.now.phase c.args.object c.args.op c.requires.next)
    (rw c.in-Err-Busy.field-0-is at c.in-Err-Busy.ensures.fault) in (
      refl,
      sends_none c.args.log.now c.try_begin.new.self c.in-Err-Busy.ensures.unsent,
      subst (λ h. LostAtNext (is_own_at c.args.shared.now c.args.log.now.ticket.thread) c.args.progress.now.phase c.args.log.now c.try_begin.new.self h) (sym c.in-Err-Busy.holder-is) lost,
    )
