use Rattle.tm_merge.proofs.SettlingLemmas.{IsUnderWay}
use Rattle.tm_merge.proofs.arrivals.Arrivals.settle.Given as goal

abbrev pub invariant-loop-candidate : goal.invariant-loop-candidate
invariant-loop-candidate l = IsUnderWay l.initial.self l.count l.self

abbrev pub decreases-loop-candidate : goal.decreases-loop-candidate
decreases-loop-candidate l = l.self.held
