use Rattle.std.proofs.Common.{◌≡◌, take}
use Rattle.tm_timeline.specs.Summaries.{greatest_stamp}
use Rattle.tm_timeline.proofs.summaries.greatest_stamp.Given as goal

abbrev pub invariant-loop-entry : goal.invariant-loop-entry
invariant-loop-entry l = l.greatest ≡ greatest_stamp (take l.entry-index l.shown)
