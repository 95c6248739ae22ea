use Rattle.std.proofs.Common.{◌≡◌, Bool, true, false, is_some, not, ap, sym, ◌∙◌}
use Rattle.tm_base.specs.Machines.{ObjectView}
use Rattle.tm_base.specs.States.{grant_of, is_pending}
use Rattle.tm_book.specs.AnyMachines.{any_object}
use Rattle.tm_joint.proofs.Judgements.{blocked}
use Rattle.tm_joint.proofs.objects.Object.waits.Goals as goal

negated : (a b : Bool) → a ≡ not b → b ≡ not a
negated a true e = sym (ap not e)
negated a false e = sym (ap not e)

pub returns : goal.returns
returns c =
    let t = c.args.thread in
    let v = c.args.self.now.view in
    let view : any_object c.self.inside.machine ≡ v = ap (λ b. b.view) c.self.view_is in
    let pending : is_pending v.state t ≡ true = sym (ap (λ (h : ObjectView). is_pending h.state t) view) ∙ sym c.if-not-pending.ensures in
    negated (is_some c.poll.result) c.is_none.result c.is_none.ensures
    ∙ ap (λ o. not (is_some o)) (c.poll.ensures.value ∙ ap (λ (h : ObjectView). grant_of h.state t) view)
    ∙ blocked v.threads v.state t c.requires.tidy pending
