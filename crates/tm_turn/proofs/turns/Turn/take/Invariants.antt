use Rattle.std.proofs.Common.{◌≡◌, ◌≤◌}
use Rattle.tm_turn.proofs.turns.Turn.take.Given as goal

abbrev pub invariant-loop : goal.invariant-loop
invariant-loop g l =
    (goal.iterator-loop g).can_next l.iterator' × (goal.iterator-loop g).is_finite l.iterator'
    × (l.pass ≡ record l.initial.pass { misses = l.pass.misses; missed = l.pass.missed }) × (l.initial.pass.misses ≤ l.pass.misses)
