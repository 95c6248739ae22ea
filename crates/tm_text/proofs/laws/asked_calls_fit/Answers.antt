use Rattle.tm_text.proofs.ScriptsLemmas.{asked_calls_fit}
use Rattle.tm_text.proofs.laws.asked_calls_fit.Goals as goal

pub returns : goal.returns
returns c = asked_calls_fit
