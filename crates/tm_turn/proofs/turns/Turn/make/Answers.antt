-- The table at the start follows the rule.
use Rattle.std.proofs.Common.{ap, sym, ◌∙◌, subst, ◌++◌, ◌∷◌, [], Some}
use Rattle.atomic_table.specs.Table.{opening}
use Rattle.tm_turn.specs.Rule.{FollowsRule}
use Rattle.tm_turn.specs.LocalViews.{newcomer}
use Rattle.tm_turn.proofs.TurnStepsLemmas.{opens}
use Rattle.tm_turn.proofs.turns.Turn.make.Goals as goal

pub new-requires : goal.new-requires
new-requires g c =
    let label = g.V.Kept.label in
    let key = label c.of-key.result.value in
    let items = c.push_reserved.ensures.items ∙ ap (λ l. l ++ Some c.args.value ∷ []) c.in_ok-slots.ensures.items in
    subst (λ l. FollowsRule g.V.Kept.entries label key (opening (0 ∷ 0 ∷ []) l (newcomer key 0 []))) (sym items)
    (opens g.V.Kept.entries label key c.args.value c.requires (ap label (sym c.of-key.ensures)))
