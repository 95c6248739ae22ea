use Rattle.std.proofs.Common.{◌≡◌, drop}
use Rattle.tm_merge.specs.Places.{at_object}
use Rattle.tm_merge.proofs.arrivals.event_at_object.Given as goal

abbrev pub invariant-loop-event : goal.invariant-loop-event
invariant-loop-event l = at_object (drop l.event-index l.events) l.object l.at ≡ at_object l.events l.object l.at
