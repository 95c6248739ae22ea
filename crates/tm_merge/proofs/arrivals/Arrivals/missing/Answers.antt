use Rattle.tm_merge.specs.StoredArrivals.{view_of}
use Rattle.tm_merge.proofs.WalkLemmas.{walk_more}
use Rattle.tm_merge.proofs.arrivals.Arrivals.missing.Goals as goal

pub loop-before-preserved : goal.loop-before-preserved
loop-before-preserved c =
    let behind = rw c.in-Some.is at c.waits_for.ensures in
    walk_more (view_of c.args.self.now) c.args.entry c.loop-before.event c.in-Some.before c.loop-before.invariant behind
