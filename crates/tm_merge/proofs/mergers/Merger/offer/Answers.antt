use Rattle.std.proofs.Common.{subst}
use Rattle.tm_merge.specs.Intakes.{intake_view}
use Rattle.tm_merge.specs.Showing.{Joins}
use Rattle.tm_merge.proofs.ArrivedLemmas.{arrived-joins}
use Rattle.tm_merge.proofs.IntakeLemmas.{on_ok}
use Rattle.tm_merge.proofs.mergers.Merger.offer.Goals as goal

pub returns-clause-arrived : goal.returns-clause-arrived
returns-clause-arrived c =
    let v = c.args.self.now in
    let w = intake_view c.offer.new.self in
    on_ok c.offer.result (λ joins. arrived-joins v c.args.entry w (subst (λ u. Joins u c.args.entry w) c.self.view_is joins)) c.offer.ensures.joins
