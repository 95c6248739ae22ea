use Rattle.std.proofs.Common.{ap, sym, ◌∙◌, subst}
use Rattle.tm_base.specs.Tickets.{TicketView, opening}
use Rattle.tm_ring.specs.Rings.{OutboxView}
use Rattle.tm_worker.specs.Logs.{KeepsLog}
use Rattle.tm_worker.proofs.TurnsLemmas.{keeps-first}
use Rattle.tm_worker.proofs.workers.Worker.make.Goals as goal

pub invariant_of-log : goal.invariant_of-log
invariant_of-log g c =
    let sent = ap (λ (x : OutboxView). x.sent) c.make_room.ensures.same ∙ c.requires.outbox in
    subst (λ ps. KeepsLog ps c.make.result c.make_room.new.self.sent) (sym c.into_vec.ensures)
    (subst (λ (t : TicketView). KeepsLog c.args.passes t c.make_room.new.self.sent) (sym c.make.ensures)
    (subst (λ es. KeepsLog c.args.passes (opening c.args.thread) es) (sym sent) (keeps-first c.args.passes c.args.thread c.requires.passes)))
