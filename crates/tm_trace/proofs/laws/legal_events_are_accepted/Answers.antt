-- The law, since stamps order the events in one way.
use Rattle.tm_trace.proofs.AcceptingLemmas.{one-accepted}
use Rattle.tm_trace.proofs.laws.legal_events_are_accepted.Goals as goal

pub returns : goal.returns
returns c = λ x es legal. one-accepted x es legal
