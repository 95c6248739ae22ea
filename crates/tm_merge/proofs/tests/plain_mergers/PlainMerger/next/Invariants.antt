use Rattle.tm_merge.specs.PlainCandidates.{IsSoonestBelow}
use Rattle.tm_merge.proofs.tests.plain_mergers.PlainMerger.next.Given as goal

abbrev pub invariant-loop-i : goal.invariant-loop-i
invariant-loop-i l = IsSoonestBelow l.self l.i l.best
