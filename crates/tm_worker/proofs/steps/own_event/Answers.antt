use Rattle.std.proofs.Common.{refl, sym, ap, ◌∙◌, subst}
use Rattle.tm_worker.specs.Standings.{Stands, is_own_at}
use Rattle.tm_worker.proofs.StepsLemmas.{can_own, own_next, own_no_resume, stands_sent, stands_unsent, lost_at, sends_none}
use Rattle.tm_worker.proofs.steps.own_event.Goals as goal

pub own_object-object-requires-clause-numbered : goal.own_object-object-requires-clause-numbered
own_object-object-requires-clause-numbered g c = c.thread.ensures.numbered c.args.shared.now c.requires.suits

pub try_begin-requires-clause-can : goal.try_begin-requires-clause-can
try_begin-requires-clause-can g c =
    can_own g.B.Body.over c.args.limit c.args.shared.now c.args.progress.now c.args.log.now c.requires.stands c.requires.suits c.requires.own
    c.own_object-object.result c.args.op c.requires.next (ap (λ t. is_own_at c.args.shared.now t c.own_object-object.result) (sym c.thread.ensures.thread) ∙ c.own_object-object.ensures)

pub returns-in-Ok-clause-stands : goal.returns-in-Ok-clause-stands
returns-in-Ok-clause-stands g c =
    subst (λ s. Stands g.B.Body.over c.args.limit s c.try_begin.new.self) (sym c.go_on.ensures)
    (stands_sent g.B.Body.over c.args.limit c.args.shared.now c.args.progress.now c.args.log.now c.requires.stands c.requires.suits c.requires.own
    c.try_begin.new.self c.own_object-object.result c.args.op c.in-Ok.entry c.in-Ok.ensures.sent c.try_begin.ensures.passes
    (λ r. absurd (own_no_resume c.args.progress.now.phase c.args.op c.requires.next r))
    (own_next (is_own_at c.args.shared.now c.args.log.now.ticket.thread) c.args.progress.now.phase c.own_object-object.result c.args.op c.requires.next (ap (λ t. is_own_at c.args.shared.now t c.own_object-object.result) (sym c.thread.ensures.thread) ∙ c.own_object-object.ensures)))

pub returns-in-Err-Busy-clause-stands : goal.returns-in-Err-Busy-clause-stands
returns-in-Err-Busy-clause-stands g c =
    stands_unsent g.B.Body.over c.args.limit c.args.shared.now c.args.progress.now c.args.log.now c.requires.stands c.requires.suits c.requires.own
    c.try_begin.new.self c.in-Err-Busy.ensures.unsent c.try_begin.ensures.passes

pub returns-in-Err-Busy-clause-attempts : goal.returns-in-Err-Busy-clause-attempts
returns-in-Err-Busy-clause-attempts g c = (
  refl,
  sends_none c.args.log.now c.try_begin.new.self c.in-Err-Busy.ensures.unsent,
  lost_at (is_own_at c.args.shared.now c.args.log.now.ticket.thread) c.args.progress.now.phase c.args.log.now c.try_begin.new.self c.in-Err-Busy.holder c.own_object-object.result c.args.op
      (own_next (is_own_at c.args.shared.now c.args.log.now.ticket.thread) c.args.progress.now.phase c.own_object-object.result c.args.op c.requires.next (ap (λ t. is_own_at c.args.shared.now t c.own_object-object.result) (sym c.thread.ensures.thread) ∙ c.own_object-object.ensures)) (rw c.in-Err-Busy.field-0-is at c.in-Err-Busy.ensures.fault),
)
