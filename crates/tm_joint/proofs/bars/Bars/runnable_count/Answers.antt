use Rattle.std.proofs.Common.{sym, ap, length, ◌∙◌}
use Rattle.tm_replay.specs.Choosing.{runnable_threads}
use Rattle.tm_joint.proofs.ChoosingLemmas.{length-runnable}
use Rattle.tm_joint.proofs.bars.Bars.runnable_count.Goals as goal

pub returns-clause-listed : goal.returns-clause-listed
returns-clause-listed c =
    c.self.invariant.runnable ∙ sym (length-runnable c.self.inside.bars.items) ∙ ap (λ bars. length (runnable_threads bars)) c.self.view_is
