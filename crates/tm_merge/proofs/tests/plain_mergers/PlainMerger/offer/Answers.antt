use Rattle.std.proofs.Common.{[], ◌∷◌, ◌++◌, ap, ◌∙◌}
use Rattle.tm_merge.proofs.PlainLemmas.{joins-end}
use Rattle.tm_merge.proofs.tests.plain_mergers.PlainMerger.offer.Goals as goal

pub returns-clause-joins : goal.returns-clause-joins
returns-clause-joins c =
    let i = c.self.inside in
    joins-end c.args.self.now c.args.entry (record { threads = i.threads; objects = i.objects; shown = c.reserve.new.self.items; held = c.push.new.self.items })
    (ap (λ w. w.threads) c.self.view_is) (ap (λ w. w.objects) c.self.view_is) (c.reserve.ensures.items ∙ ap (λ w. w.shown) c.self.view_is)
    (c.in-Ok-push.ensures.items ∙ ap (λ w. w.held ++ c.args.entry ∷ []) c.self.view_is)
