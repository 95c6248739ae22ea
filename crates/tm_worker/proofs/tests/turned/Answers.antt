use Rattle.tm_worker.proofs.TurnsLemmas.{suits_later}
use Rattle.tm_worker.proofs.tests.turned.Goals as goal

pub returns-clause-suits : goal.returns-clause-suits
returns-clause-suits c =
    suits_later c.args.shared.now c.args.worker.now.log.passes c.turn.new.self.log.passes c.args.worker.now.log.ticket.thread c.turn.new.self.log.ticket.thread
    c.requires.suits c.turn.ensures.passes c.turn.ensures.thread
