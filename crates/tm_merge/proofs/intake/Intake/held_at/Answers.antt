use Rattle.std.proofs.Common.{◌≤◌, length, sym, subst}
use Rattle.tm_merge.specs.Holding.{IsHeldAt, IsMissing}
use Rattle.tm_merge.specs.Intakes.{intake_view}
use Rattle.tm_merge.specs.Showing.{IsSettled}
use Rattle.tm_merge.proofs.IntakeLemmas.{all_shown_where_settled}
use Rattle.tm_merge.proofs.intake.Intake.held_at.Goals as goal

pub returns-in_err-entry : goal.returns-in_err-entry
returns-in_err-entry c =
    let i = c.args.self.now in
    let same = all_shown_where_settled i.arrivals i.shown c.requires.keeps.all c.requires.settled in
    let beyond : length (intake_view i).held ≤ c.args.k = subst (λ v. length v.held ≤ c.args.k) (sym same) c.in_err-entry.ensures in
    rw c.from_residual.ensures beyond

pub missing-missing-requires-clause-settled : goal.missing-missing-requires-clause-settled
missing-missing-requires-clause-settled c =
    let i = c.args.self.now in
    subst IsSettled (all_shown_where_settled i.arrivals i.shown c.requires.keeps.all c.requires.settled) c.requires.settled

pub returns : goal.returns
returns c =
    let i = c.args.self.now in
    let same = all_shown_where_settled i.arrivals i.shown c.requires.keeps.all c.requires.settled in
    (subst (λ v. IsHeldAt v c.args.k c.in_ok-entry.entry) (sym same) c.in_ok-entry.ensures, subst (λ v. IsMissing v c.in_ok-entry.entry c.missing-missing.result) (sym same) c.missing-missing.ensures)
