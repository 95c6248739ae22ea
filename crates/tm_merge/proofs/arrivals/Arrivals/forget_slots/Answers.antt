use Rattle.std.proofs.Common.{refl}
use Rattle.tm_merge.proofs.KeepsLemmas.{keeps-forgotten}
use Rattle.tm_merge.proofs.arrivals.Arrivals.forget_slots.Goals as goal

pub returns-then-self-eq0-clause-keeps : goal.returns-then-self-eq0-clause-keeps
returns-then-self-eq0-clause-keeps c =
    let a = c.args.self.now in
    keeps-forgotten a (record a { slots = c.clear.new.self }) c.requires c.if-self-eq0.true c.clear.ensures.items refl refl refl refl refl
