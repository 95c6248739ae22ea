-- The state before the event is sound.
use Rattle.tm_laws.proofs.Reaching.{history-sound, Follows-moves}
use Rattle.tm_laws.proofs.pending_moves.Goals as goal

pub returns : goal.returns
returns c = λ l es p e q run f. Follows-moves l p e q (history-sound l es p run) f
