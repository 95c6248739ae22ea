use Rattle.std.proofs.Common.{◌≡◌, ap, ◌∙◌, subst}
use Rattle.tm_base.specs.Machines.{ObjectView, changed}
use Rattle.tm_base.specs.Histories.{Lawful}
use Rattle.tm_book.specs.AnyMachines.{any_object}
use Rattle.tm_joint.proofs.Answering.{entered-answer}
use Rattle.tm_joint.proofs.objects.Object.enter.Goals as goal

pub returns : goal.returns
returns c =
    let e = c.args.entry.now in
    let h = any_object c.answer.new.machine in
    let view : any_object c.self.inside.machine ≡ c.args.self.now.view = ap (λ b. b.view) c.self.view_is in
    entered-answer c.args.self.now e c.answer.result h c.requires.answer
    (subst (λ (v : ObjectView). Lawful v e.thread e.op c.answer.result h.state) view c.answer.ensures.lawful)
    (c.answer.ensures.same ∙ ap (λ (v : ObjectView). changed v h.state) view)
