-- By induction over the history.
use Rattle.tm_shared.proofs.OwnEventsLemmas.{events-tell}
use Rattle.tm_shared.proofs.laws.own_events_tell.Goals as goal

pub returns : goal.returns
returns c = λ l es p run. events-tell l es p run
