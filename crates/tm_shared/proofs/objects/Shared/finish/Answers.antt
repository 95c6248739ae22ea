-- The turn at which the call was granted is the last of those that were taken.
use Rattle.std.proofs.Common.{Some, ap, sym, ◌∙◌, subst}
use Rattle.tm_base.specs.declared.operations.Op.TheVariants as op
use Rattle.tm_shared.specs.Calls.{IsAdded}
use Rattle.tm_shared.proofs.CallsLemmas.{added_some, added_since, number_since, same_number}
use Rattle.tm_shared.proofs.objects.Shared.finish.Goals as goal

pub returns-in-Some-resume-clause-added : goal.returns-in-Some-resume-clause-added
returns-in-Some-resume-clause-added g c =
    let kept = c.loop.invariant in
    let took = c.take-held.ensures in
    let e = c.in-Some-resume.entry in
    let label = c.args.self.now.label in
    let last = c.resume.new.pass in
    let later = c.resume.new.ticket in
    let here = added_some label c.loop.pass c.take-held.new.pass last c.loop.ticket later op.Resume (Some e) c.in-Some-resume.ensures.gives took.begins
    (same_number c.loop.pass c.take-held.new.pass _ _ _ took.taken) took.mine (ap (λ t. t.thread) kept.ticket ∙ c.requires.one ∙ sym (number_since label c.args.pass.now c.loop.pass last kept.pass kept.begins)) in
    subst (λ t. IsAdded label c.args.pass.now t op.Resume e last later) kept.ticket
    (added_since label c.args.pass.now c.loop.pass last kept.pass kept.begins c.loop.ticket later op.Resume e kept.own here)
