-- The state is tidy, and there the queues are as long as there are threads that wait.
use Rattle.tm_laws.proofs.Reaching.{history-sound}
use Rattle.tm_laws.proofs.WaitersLemmas.{length-queued}
use Rattle.tm_laws.proofs.waiters_are_threads.Goals as goal

pub returns : goal.returns
returns c = λ l es p run. length-queued l.threads p.state (history-sound l es p run).tidy
