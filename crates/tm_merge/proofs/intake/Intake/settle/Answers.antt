use Rattle.std.proofs.Common.{◌-◌, length, refl, ap, arith}
use Rattle.tm_merge.specs.StoredArrivals.{view_of}
use Rattle.tm_merge.proofs.IntakeLemmas.{settles-all, within_settled, within_sorted}
use Rattle.tm_merge.proofs.OrderedLemmas.{settled-sorts}
use Rattle.tm_merge.proofs.intake.Intake.settle.Goals as goal

pub order_from-requires-clause-within : goal.order_from-requires-clause-within
order_from-requires-clause-within c =
    within_settled c.args.self.now.arrivals c.settle.new.self c.args.self.now.shown c.settle.result c.requires.within c.settle.ensures.settles

pub overflow_sub-result : goal.overflow_sub-result
overflow_sub-result c =
    let within = within_settled c.args.self.now.arrivals c.settle.new.self c.args.self.now.shown c.settle.result c.requires.within c.settle.ensures.settles in
    let still = within_sorted c.settle.new.self c.order_from.new.self c.args.self.now.shown within c.order_from.ensures.sorts in
    let all = ap length c.shown.ensures in
    omega (arith, still, all)

pub returns-clause-settles : goal.returns-clause-settles
returns-clause-settles c =
    let settles = c.settle.ensures.settles in
    let sorts = c.order_from.ensures.sorts in
    settles-all c.args.self.now.arrivals c.settle.new.self c.order_from.new.self c.args.self.now.shown c.settle.result c.requires.within settles c.order_from.ensures.all sorts
    (settled-sorts c.args.self.now.shown (view_of c.settle.new.self) (view_of c.order_from.new.self) settles.settled sorts)
    (length c.shown.result.now) (length c.shown.result.now - c.args.self.now.shown) (ap length c.shown.ensures) refl
