use Rattle.std.proofs.Common.{take}
use Rattle.tm_merge.specs.HeldOrder.{IsLeastAfter}
use Rattle.tm_merge.specs.StoredArrivals.{occupants}
use Rattle.tm_merge.proofs.arrivals.Arrivals.next_held.Given as goal

abbrev pub invariant-loop-slot : goal.invariant-loop-slot
invariant-loop-slot l = IsLeastAfter l.current (occupants (take l.slot-index l.self.slots.items)) l.best
