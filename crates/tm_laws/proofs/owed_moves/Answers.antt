-- The law, event by event.
use Rattle.tm_laws.proofs.OwedLemmas.{owed-moves}
use Rattle.tm_laws.proofs.owed_moves.Goals as goal

pub returns : goal.returns
returns c = λ h t o r s' sound e. owed-moves h t o r s' sound e
