-- The row serves the thread that it names.
use Rattle.tm_laws.proofs.Giving.{Lawful-gives}
use Rattle.tm_laws.proofs.named_threads_are_known.Goals as goal

pub returns : goal.returns
returns c = λ h t o heir s' sound e. Lawful-gives h t o heir s' sound e
