use Rattle.std.proofs.Common.{subst}
use Rattle.tm_base.specs.Orders.{KeepsPredecessors}
use Rattle.tm_merge.specs.MergerViews.{arrived}
use Rattle.tm_merge.specs.Numbering.{IsNumbered, PrefixesAreClosed}
use Rattle.tm_merge.proofs.IntakeLemmas.{shown_numbered, shown_closed}
use Rattle.tm_merge.proofs.OrderLemmas.{numbered_in_order}
use Rattle.tm_merge.proofs.mergers.Merger.shown.Goals as goal

pub returns-clause-numbered : goal.returns-clause-numbered
returns-clause-numbered c = subst (λ v. IsNumbered v.shown) c.self.view_is (shown_numbered c.self.inside.intake.arrivals c.self.inside.intake.shown c.self.invariant.all)

pub returns-clause-in_order : goal.returns-clause-in_order
returns-clause-in_order c =
    let i = c.self.inside.intake in
    subst (λ v. KeepsPredecessors v.shown) c.self.view_is (numbered_in_order _ (shown_numbered i.arrivals i.shown c.self.invariant.all)).0

pub returns-clause-closed : goal.returns-clause-closed
returns-clause-closed c = subst (λ v. PrefixesAreClosed v.shown (arrived v)) c.self.view_is (shown_closed c.self.inside.intake.arrivals c.self.inside.intake.shown c.self.invariant.all)
