use Rattle.std.proofs.Common.{◌∷◌}
use Rattle.clap.specs.Walk.{texts}
use Rattle.tm_words.proofs.PlanLemmas.{ranged}
use Rattle.tm_words.proofs.make_words.plan_in_range.Goals as goal

pub returns : goal.returns
returns c =
    ranged (c.args.kind.now ∷ texts c.args.words.now) c.in_ok-plan.plan c.is_in_range.result c.then_some.result c.in_ok-plan.ensures c.is_in_range.ensures c.then_some.ensures
