use Rattle.std.proofs.Common.{◌≡◌, drop}
use Rattle.tm_merge.specs.Places.{at_place}
use Rattle.tm_merge.proofs.arrivals.event_at_place.Given as goal

abbrev pub invariant-loop-event : goal.invariant-loop-event
invariant-loop-event l = at_place (drop l.event-index l.events) l.thread l.place ≡ at_place l.events l.thread l.place
