use Rattle.tm_merge.specs.Holding.{IsHeldAt}
use Rattle.tm_merge.specs.StoredArrivals.{view_of}
use Rattle.tm_merge.proofs.arrivals.Arrivals.held_at.Given as goal

abbrev pub invariant-loop : goal.invariant-loop
invariant-loop l = IsHeldAt (view_of l.self) l.counter l.current
