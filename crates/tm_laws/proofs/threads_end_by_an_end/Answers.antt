-- The thread hasn't ended at the start, and only an end makes it so.
use Rattle.tm_laws.proofs.EndedThreadsLemmas.{end-made}
use Rattle.tm_laws.proofs.threads_end_by_an_end.Goals as goal

pub returns : goal.returns
returns c = λ l es p run ended. end-made l es p run ended
