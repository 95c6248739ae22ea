-- The law, as rearrangements.
use Rattle.tm_order.proofs.LegalEventsLemmas.{legal-runs}
use Rattle.tm_order.proofs.legal_events_run.Goals as goal

pub returns : goal.returns
returns c = λ x es legal. legal-runs x es legal
