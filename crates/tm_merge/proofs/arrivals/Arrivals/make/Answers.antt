use Rattle.std.proofs.Common.{arith}
use Rattle.tm_merge.specs.declared.arrivals.Arrivals.{Arrivals}
use Rattle.tm_merge.proofs.ReadyThreadsLemmas.{lists-new}
use Rattle.tm_merge.proofs.arrivals.Arrivals.make.Goals as goal

pub returns-clause-lists : goal.returns-clause-lists
returns-clause-lists c =
    let a : Arrivals = record { threads = c.in_ok-threads.threads; objects = c.in_ok-objects.objects; shown = c.new.result; slots = c.new-2.result; held = 0; ready = c.in_ok-ready.ready } in
    lists-new a c.new-2.ensures.items c.in_ok-ready.ensures.items (omega (arith, c.in_ok-threads.ensures.count, c.in_ok-ready.ensures.capacity))
