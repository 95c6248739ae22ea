-- The law, event by event.
use Rattle.tm_replay.proofs.ProjectionsLemmas.{threads-have_places}
use Rattle.tm_replay.proofs.threads_have_places.Goals as goal

pub returns : goal.returns
returns c = λ x es j run t s h. threads-have_places x es j run t s h
