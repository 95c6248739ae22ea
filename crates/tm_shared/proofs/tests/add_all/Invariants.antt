use Rattle.std.proofs.Common.{◌≡◌, None}
use Rattle.std.specs.Prelude.{pos}
use Rattle.tm_base.specs.declared.operations.Op.TheVariants as op
use Rattle.tm_turn.specs.Passes.{mine}
use Rattle.tm_shared.specs.OwnEvents.{MayCall}
use Rattle.tm_shared.proofs.tests.add_all.Given as goal

abbrev pub invariant-loop : goal.invariant-loop
invariant-loop g l =
    record {
      same : l.pass ≡ record l.initial.pass { seen = l.pass.seen; turns = l.pass.turns; misses = l.pass.misses; missed = l.pass.missed };
      one : l.ticket.thread ≡ l.initial.ticket.thread;
      free : l.ticket.waits ≡ None;
      may : MayCall l.variable.label (mine l.pass) l.pass.number (op.Add (pos 1));
    }
