use Rattle.std.proofs.Common.{subst}
use Rattle.std.specs.List.Sorted.{IsPermutation}
use Rattle.tm_merge.specs.Intakes.{intake_view}
use Rattle.tm_merge.specs.MergerViews.{arrived}
use Rattle.tm_merge.proofs.ArrivedLemmas.{arrived-settles}
use Rattle.tm_merge.proofs.mergers.Merger.settle.Goals as goal

pub returns-clause-arrived : goal.returns-clause-arrived
returns-clause-arrived c =
    let settles = c.settle.ensures.settles in
    subst (λ v. IsPermutation (arrived v) (arrived (intake_view c.settle.new.self))) c.self.view_is (arrived-settles (intake_view c.self.inside.intake) (intake_view c.settle.new.self) settles.news settles.steps)
