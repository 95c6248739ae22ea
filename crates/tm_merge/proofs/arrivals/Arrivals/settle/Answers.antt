use Rattle.std.proofs.Common.{arith}
use Rattle.tm_merge.proofs.SettlingLemmas.{one_more}
use Rattle.tm_merge.proofs.arrivals.Arrivals.settle.Goals as goal

pub loop-candidate-preserved : goal.loop-candidate-preserved
loop-candidate-preserved c = one_more c.args.self.now c.loop-candidate.count c.loop-candidate.self c.show.new.self c.in-Some.candidate.entry c.loop-candidate.invariant c.show.ensures.all c.show.ensures.shows

pub loop-candidate-smaller : goal.loop-candidate-smaller
loop-candidate-smaller c =
    let more = (one_more c.args.self.now c.loop-candidate.count c.loop-candidate.self c.show.new.self c.in-Some.candidate.entry c.loop-candidate.invariant c.show.ensures.all c.show.ensures.shows).left in
    let now = c.loop-candidate.invariant.left in
    omega (arith, more, now)
