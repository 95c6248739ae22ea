use Rattle.std.proofs.Common.{◌∷◌, arith}
use Rattle.std.proofs.lemmas.List.Sorted.{length_permutation}
use Rattle.tm_merge.proofs.PlainLemmas.{shows_more}
use Rattle.tm_merge.proofs.tests.plain_mergers.PlainMerger.settle.Goals as goal

pub loop-index-preserved : goal.loop-index-preserved
loop-index-preserved c = shows_more c.args.self.now c.loop-index.self c.show.new.self c.loop-index.invariant c.show.ensures

pub loop-index-smaller : goal.loop-index-smaller
loop-index-smaller c =
    let fewer = length_permutation c.loop-index.self.held (c.show.ensures.entry ∷ c.show.new.self.held) c.show.ensures.shows.held in
    omega (arith, fewer)
