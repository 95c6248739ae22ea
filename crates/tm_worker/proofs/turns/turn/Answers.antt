use Rattle.std.proofs.Common.{refl, subst}
use Rattle.tm_worker.specs.Standings.{is_own_at}
use Rattle.tm_worker.proofs.TurnsLemmas.{kinds_are, turn_of, turn_thread}
use Rattle.tm_worker.proofs.turns.turn.Goals as goal

pub prepare-requires-clause-body : goal.prepare-requires-clause-body
prepare-requires-clause-body g c =
    subst (λ kinds. g.B.Body.is_for kinds c.args.progress.now.body) (kinds_are c.args.shared.now c.args.log.now.passes c.args.log.now.ticket.thread c.requires.suits) c.requires.body

pub returns-clause-turns : goal.returns-clause-turns
returns-clause-turns g c =
    turn_of g.B.Body.asked g.B.Body.rest c.args.limit (is_own_at c.args.shared.now c.args.log.now.ticket.thread) c.args.progress.now c.prepare.new.progress c.args.log.now c.prepare.new.log
    c.prepare.ensures.prepares c.prepare.ensures.log c.args.shared.now refl c.attempt.result c.attempt.new.progress c.attempt.new.log c.attempt.ensures.tries

pub returns-clause-thread : goal.returns-clause-thread
returns-clause-thread g c =
    turn_thread g.B.Body.asked g.B.Body.rest c.args.limit (is_own_at c.args.shared.now c.args.log.now.ticket.thread) c.args.progress.now c.args.log.now
    c.attempt.result c.attempt.new.progress c.attempt.new.log (returns-clause-turns g c)
