use Rattle.std.proofs.Common.{length}
use Rattle.tm_merge.proofs.PlainLemmas.{HasShown}
use Rattle.tm_merge.proofs.tests.plain_mergers.PlainMerger.settle.Given as goal

abbrev pub invariant-loop-index : goal.invariant-loop-index
invariant-loop-index l = HasShown l.initial.self l.self

abbrev pub decreases-loop-index : goal.decreases-loop-index
decreases-loop-index l = length l.self.held
