-- The law, event by event.
use Rattle.tm_replay.proofs.ProjectionsLemmas.{objects-have_histories}
use Rattle.tm_replay.proofs.objects_have_histories.Goals as goal

pub returns : goal.returns
returns c = λ x es j run o b h. objects-have_histories x es j run o b h
