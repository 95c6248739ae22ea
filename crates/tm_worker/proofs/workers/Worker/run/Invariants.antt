-- The worker made its next events, and sent them; its passes are the same, and its program is for the same kinds.
use Rattle.std.proofs.Common.{◌≡◌, List}
use Rattle.tm_base.specs.declared.kinds.Kind.{Kind}
use Rattle.tm_worker.specs.Logs.{AreSamePasses}
use Rattle.tm_worker.specs.Standings.{is_own_at}
use Rattle.tm_worker.specs.Turning.{Ran}
use Rattle.tm_worker.proofs.workers.Worker.run.Given as goal

abbrev pub invariant-loop : goal.invariant-loop
invariant-loop g l =
    record {
      can_next : (goal.iterator-loop g).can_next l.iterator';
      is_finite : (goal.iterator-loop g).is_finite l.iterator';
      ran : Ran g.B.Body.asked g.B.Body.rest l.initial.self.limit (is_own_at l.shared l.initial.self.log.ticket.thread) l.initial.self.progress l.initial.self.log l.self.progress l.self.log;
      limit : l.self.limit ≡ l.initial.self.limit;
      passes : AreSamePasses l.initial.self.log.passes l.self.log.passes;
      stays : (kinds : List Kind) → g.B.Body.is_for kinds l.initial.self.progress.body → g.B.Body.is_for kinds l.self.progress.body;
    }
