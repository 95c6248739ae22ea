use Rattle.tm_session.specs.Records.{AreFirstTickets}
use Rattle.tm_session.proofs.alone_runs.make_tickets.Given as goal

abbrev pub invariant-loop-thread : goal.invariant-loop-thread
invariant-loop-thread l = AreFirstTickets l.thread l.tickets.items
