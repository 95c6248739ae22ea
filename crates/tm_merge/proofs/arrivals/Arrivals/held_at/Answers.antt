use Rattle.std.proofs.Common.{arith}
use Rattle.tm_merge.specs.StoredArrivals.{occupants}
use Rattle.tm_merge.proofs.HeldOrderLemmas.{held_first, held_next, held_all, none_held}
use Rattle.tm_merge.proofs.arrivals.Arrivals.held_at.Goals as goal

pub returns-in_err-current : goal.returns-in_err-current
returns-in_err-current c =
    let none = rw c.in_err-current.was at c.next_held.ensures in
    let empty = none_held (occupants c.args.self.now.slots.items) none in
    rw c.from_residual.ensures (omega (arith, empty))

pub loop-init : goal.loop-init
loop-init c =
    let first = rw c.in_ok-current.was at c.next_held.ensures in
    held_first c.args.self.now c.requires c.in_ok-current.current first

pub returns-in_err-current-2 : goal.returns-in_err-current-2
returns-in_err-current-2 c =
    let none = rw c.in_err-current-2.was at c.next_held-in-loop.ensures in
    let all = held_all c.args.self.now c.requires c.loop.counter c.loop.current c.loop.invariant none in
    rw c.from_residual-in_err-current-2.ensures (omega (arith, all, c.loop-test.true))

pub loop-preserved : goal.loop-preserved
loop-preserved c =
    let first = rw c.in_ok-current-2.was at c.next_held-in-loop.ensures in
    held_next c.args.self.now c.requires c.loop.counter c.loop.current c.in_ok-current-2.current c.loop.invariant first
