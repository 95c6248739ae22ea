use Rattle.tm_text.specs.Objects.{object_by}
use Rattle.tm_text.proofs.ObjectsLemmas.{has_name}
use Rattle.tm_text.proofs.objects.Objects.add.Goals as goal

pub returns-in_default : goal.returns-in_default
returns-in_default c = λ later declarable.
    absurd (c.in_default.ensures (has_name c.args.self.now.objects later (object_by c.args.self.now.thread c.args.declarator c.args.words) declarable))
