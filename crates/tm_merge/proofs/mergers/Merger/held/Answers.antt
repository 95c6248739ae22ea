use Rattle.std.proofs.Common.{ℕ, ◌<◌, ◌≤◌, Option, Some, None, length, refl, sym, subst, arith}
use Rattle.std.specs.Prelude.{◌↔◌, IsSome, MatchOption}
use Rattle.tm_merge.specs.declared.holds.Hold.{Hold}
use Rattle.tm_merge.specs.Holding.{IsHeldAt, IsMissing}
use Rattle.tm_merge.specs.Intakes.{intake_view}
use Rattle.tm_merge.specs.MergerViews.{MergerView}
use Rattle.tm_merge.specs.Showing.{IsSettled}
use Rattle.tm_merge.proofs.HeldOrderLemmas.{held_below}
use Rattle.tm_merge.proofs.mergers.Merger.held.Goals as goal

-- there is one just below how many are held
some_below : (v : MergerView) (k : ℕ) (r : Option Hold) → MatchOption r (length v.held ≤ k) (λ hold. IsHeldAt v k hold.entry × IsMissing v hold.entry hold.missing) → IsSome r ↔ (k < length v.held)
some_below v k None beyond = ((λ is. absurd cc), (λ below. absurd (omega (arith, beyond, below))))
some_below v k (Some hold) at = ((λ _. held_below v k hold.entry at.0), (λ _. refl))

pub held_at-requires-clause-settled : goal.held_at-requires-clause-settled
held_at-requires-clause-settled c = subst IsSettled (sym c.self.view_is) c.requires

pub returns-clause-some : goal.returns-clause-some
returns-clause-some c =
    let i = c.self.inside.intake in
    subst (λ v. IsSome c.held_at.result ↔ (c.args.k < length v.held)) c.self.view_is (some_below (intake_view i) c.args.k c.held_at.result c.held_at.ensures)
