-- The turn was taken and given back.
use Rattle.tm_base.specs.declared.operations.Op.TheVariants as op
use Rattle.tm_shared.proofs.CallsLemmas.{took_turns, added_some, same_number}
use Rattle.tm_shared.proofs.objects.Shared.stop.Goals as goal

pub returns-clause-turn : goal.returns-clause-turn
returns-clause-turn g c =
    let took = c.take-held.ensures in
    took_turns c.args.self.now.label c.args.pass.now c.take-held.new.pass c.halt.new.pass c.args.ticket.now c.halt.new.ticket op.Stop _ c.halt.ensures.gives took.begins
    c.requires.idle took.taken took.misses

pub returns-clause-added : goal.returns-clause-added
returns-clause-added g c =
    let took = c.take-held.ensures in
    added_some c.args.self.now.label c.args.pass.now c.take-held.new.pass c.halt.new.pass c.args.ticket.now c.halt.new.ticket op.Stop c.halt.result c.halt.ensures.gives took.begins
    (same_number c.args.pass.now c.take-held.new.pass _ _ _ took.taken) took.mine c.requires.one
