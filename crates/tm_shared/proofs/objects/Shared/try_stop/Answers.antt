-- The turn was taken and given back.
use Rattle.tm_base.specs.declared.operations.Op.TheVariants as op
use Rattle.tm_shared.proofs.CallsLemmas.{took_turn, added_some, same_number}
use Rattle.tm_shared.proofs.objects.Shared.try_stop.Goals as goal

pub returns-clause-turn : goal.returns-clause-turn
returns-clause-turn c =
    let took = c.in_ok-held.ensures in
    took_turn c.args.self.now.label c.args.pass.now c.try_take.new.pass c.halt.new.pass c.args.ticket.now c.halt.new.ticket op.Stop _ c.halt.ensures.gives took.begins c.requires.idle took.taken

pub returns-clause-added : goal.returns-clause-added
returns-clause-added c =
    let took = c.in_ok-held.ensures in
    added_some c.args.self.now.label c.args.pass.now c.try_take.new.pass c.halt.new.pass c.args.ticket.now c.halt.new.ticket op.Stop c.halt.result c.halt.ensures.gives took.begins
    (same_number c.args.pass.now c.try_take.new.pass _ _ _ took.taken) took.mine c.requires.one
