use Rattle.std.proofs.Common.{◌≡◌, suc, drop}
use Rattle.tm_merge.specs.Places.{at_object}
use Rattle.tm_merge.proofs.tests.plain_mergers.after_object.Given as goal

abbrev pub invariant-loop-event : goal.invariant-loop-event
invariant-loop-event l = at_object (drop l.event-index l.events) l.object (suc l.at) ≡ at_object l.events l.object (suc l.at)
