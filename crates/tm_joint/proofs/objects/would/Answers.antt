use Rattle.std.proofs.Common.{sym, ◌∙◌, subst}
use Rattle.tm_base.specs.declared.operations.Op.{Op}
use Rattle.tm_base.specs.declared.replies.Reply.TheVariants as reply
use Rattle.tm_base.specs.Histories.{CanAnswer}
use Rattle.tm_book.specs.AnyMachines.{any_object}
use Rattle.tm_joint.specs.Refusals.{HasAnswer}
use Rattle.tm_joint.proofs.Answering.{HasAnswer-resume, HasAnswer-stop, HasAnswer-step}
use Rattle.tm_joint.proofs.objects.would.Goals as goal

pub returns-in-Resume : goal.returns-in-Resume
returns-in-Resume c =
    let h = any_object c.args.machine.now in
    subst (λ (o : Op). HasAnswer h c.args.thread o c.unwrap.result) (sym c.in-Resume.is)
    (HasAnswer-resume h c.args.thread c.unwrap.result (sym c.poll.ensures.value ∙ c.unwrap.ensures))

pub returns-in-Stop : goal.returns-in-Stop
returns-in-Stop c =
    let h = any_object c.args.machine.now in
    subst (λ (o : Op). HasAnswer h c.args.thread o reply.Ok) (sym c.in-Stop.is)
    (HasAnswer-stop h c.args.thread (subst (CanAnswer h c.args.thread) c.in-Stop.is c.requires.can))

pub returns-in_default : goal.returns-in_default
returns-in_default c =
    let h = any_object c.args.machine.now in
    HasAnswer-step h c.args.thread c.args.op c.would.result c.in_default.not-Resume c.in_default.not-Stop c.requires.can c.would.ensures
