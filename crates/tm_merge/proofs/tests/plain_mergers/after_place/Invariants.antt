use Rattle.std.proofs.Common.{◌≡◌, suc, drop}
use Rattle.tm_merge.specs.Places.{at_place}
use Rattle.tm_merge.proofs.tests.plain_mergers.after_place.Given as goal

abbrev pub invariant-loop-event : goal.invariant-loop-event
invariant-loop-event l = at_place (drop l.event-index l.events) l.thread (suc l.place) ≡ at_place l.events l.thread (suc l.place)
