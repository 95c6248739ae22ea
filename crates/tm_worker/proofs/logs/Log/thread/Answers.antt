use Rattle.std.proofs.Common.{subst}
use Rattle.tm_worker.specs.Logs.{LogView, KeepsLog}
use Rattle.tm_worker.proofs.StepsLemmas.{numbered}
use Rattle.tm_worker.proofs.logs.Log.thread.Goals as goal

pub returns-clause-numbered : goal.returns-clause-numbered
returns-clause-numbered c shared suits =
    let log = c.args.self.now in
    numbered shared log.passes log.ticket log.outbox.sent suits
    (subst (λ (l : LogView). KeepsLog l.passes l.ticket l.outbox.sent) c.self.view_is c.self.invariant)
