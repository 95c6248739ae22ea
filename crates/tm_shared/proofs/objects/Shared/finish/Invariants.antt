-- Until the call was granted the pass only sees more, and its own events stay.
use Rattle.std.proofs.Common.{◌≡◌, ◌≤◌}
use Rattle.tm_turn.specs.Prefixes.{StartsWith}
use Rattle.tm_turn.specs.Passes.{mine}
use Rattle.tm_shared.proofs.objects.Shared.finish.Given as goal

abbrev pub invariant-loop : goal.invariant-loop
invariant-loop g l =
    record {
      can_next : (goal.iterator-loop g).can_next l.iterator';
      is_finite : (goal.iterator-loop g).is_finite l.iterator';
      ticket : l.ticket ≡ l.initial.ticket;
      pass : l.pass ≡ record l.initial.pass { seen = l.pass.seen; turns = l.pass.turns; misses = l.pass.misses; missed = l.pass.missed };
      turns : l.initial.pass.turns ≤ l.pass.turns;
      misses : l.initial.pass.misses ≤ l.pass.misses;
      begins : StartsWith l.pass.seen l.initial.pass.seen;
      own : mine l.pass ≡ mine l.initial.pass;
    }
