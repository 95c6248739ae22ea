use Rattle.std.proofs.Common.{sym, subst}
use Rattle.tm_base.specs.Orders.{StampsRise}
use Rattle.tm_merge.specs.MergerViews.{arrived}
use Rattle.tm_merge.specs.Numbering.{HaveOwnPlaces}
use Rattle.tm_merge.proofs.IntakeLemmas.{arrived_same}
use Rattle.tm_merge.proofs.OrderLemmas.{arrived_own}
use Rattle.tm_merge.proofs.mergers.Merger.held_count.Goals as goal

pub returns-clause-rise : goal.returns-clause-rise
returns-clause-rise c =
    let i = c.self.inside.intake in
    subst (λ v. StampsRise (arrived v)) c.self.view_is (subst StampsRise (sym (arrived_same i.arrivals i.shown)) c.self.invariant.all.keeps.rise)

pub returns-clause-own : goal.returns-clause-own
returns-clause-own c =
    let i = c.self.inside.intake in
    subst (λ v. HaveOwnPlaces (arrived v)) c.self.view_is (subst HaveOwnPlaces (sym (arrived_same i.arrivals i.shown)) (arrived_own i.arrivals c.self.invariant.all.keeps))
