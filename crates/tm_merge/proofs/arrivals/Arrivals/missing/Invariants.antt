use Rattle.tm_merge.specs.StoredArrivals.{view_of}
use Rattle.tm_merge.proofs.WalkLemmas.{IsOnWalk}
use Rattle.tm_merge.proofs.arrivals.Arrivals.missing.Given as goal

abbrev pub invariant-loop-before : goal.invariant-loop-before
invariant-loop-before l = IsOnWalk (view_of l.self) l.fn.entry l.event

abbrev pub decreases-loop-before : goal.decreases-loop-before
decreases-loop-before l = l.event.stamp
