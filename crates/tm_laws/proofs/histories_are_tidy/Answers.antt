-- Every state of a history is sound, by induction over its events.
use Rattle.tm_laws.proofs.Reaching.{history-sound}
use Rattle.tm_laws.proofs.histories_are_tidy.Goals as goal

pub returns : goal.returns
returns c = λ l es p run. history-sound l es p run
