use Rattle.std.proofs.Common.{◌≤◌, length, arith}
use Rattle.tm_merge.proofs.ReadyThreadsLemmas.{next_from}
use Rattle.tm_merge.proofs.arrivals.Arrivals.soonest.Goals as goal

pub returns : goal.returns
returns c =
    let a = c.args.self.now in
    let whole : length a.ready.items ≤ c.loop-index.index = omega (arith, a.ready.ok.0, c.loop-index-test.false, c.len-index-end.ensures) in
    next_from a c.requires c.loop-index.index c.loop-index.best whole c.loop-index.invariant
