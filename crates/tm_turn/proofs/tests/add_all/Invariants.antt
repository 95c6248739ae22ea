use Rattle.std.proofs.Common.{◌≡◌}
use Rattle.tm_turn.proofs.tests.add_all.Given as goal

abbrev pub invariant-loop-place : goal.invariant-loop-place
invariant-loop-place g l =
    l.pass ≡ record l.initial.pass { seen = l.pass.seen; turns = l.pass.turns; misses = l.pass.misses; missed = l.pass.missed }
