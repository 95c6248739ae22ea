use Rattle.tm_collect.proofs.CollectingLemmas.{IsCollecting-joins}
use Rattle.std.proofs.Common.{sym}
use Rattle.tm_collect.proofs.collectors.Collector.hand.Goals as goal

pub invariant_of-self : goal.invariant_of-self
invariant_of-self c =
    IsCollecting-joins _ c.args.entry c.offer.new.self c.self.invariant c.in-Ok.ensures.joins c.in-Ok.ensures.arrived (sym c.in-Ok.ensures.judged)
