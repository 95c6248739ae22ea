use Rattle.tm_merge.specs.Candidates.{IsBestBelow}
use Rattle.tm_merge.proofs.arrivals.Arrivals.soonest.Given as goal

abbrev pub invariant-loop-index : goal.invariant-loop-index
invariant-loop-index l = IsBestBelow l.self l.index l.best
