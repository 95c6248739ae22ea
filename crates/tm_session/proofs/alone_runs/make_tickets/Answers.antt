use Rattle.tm_session.proofs.TicketsLemmas.{first-more}
use Rattle.tm_session.proofs.alone_runs.make_tickets.Goals as goal

pub loop-thread-preserved : goal.loop-thread-preserved
loop-thread-preserved c =
    rw c.in_ok-push.ensures.items (first-more c.loop-thread.thread c.loop-thread.tickets.items c.make.result c.loop-thread.invariant c.make.ensures)
