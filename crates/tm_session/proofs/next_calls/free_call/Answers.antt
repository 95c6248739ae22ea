use Rattle.std.proofs.Common.{sym, ap, ◌∙◌, Some}
use Rattle.tm_base.specs.declared.asks.Ask.TheVariants as ask
use Rattle.tm_session.proofs.Limits.{IsWithin-call, asked-next}
use Rattle.tm_session.proofs.next_calls.free_call.Goals as goal

pub returns-in-Some-Call-clause-limit : goal.returns-in-Some-Call-clause-limit
returns-in-Some-Call-clause-limit c =
    let a = c.in-Some-Call in
    let asked = asked-next c.args.seat.now.rest (ask.Call a.object a.op) (sym c.asked.ensures ∙ a.is ∙ ap (λ k. Some k) a.field-0-is) in
    IsWithin-call c.args.calls c.args.seat.now.rest.last a.op (c.requires a.object a.op asked) c.if-calls.true
