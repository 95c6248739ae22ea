use Rattle.tm_text.proofs.ThreadCalls.{calls_fit}
use Rattle.tm_text.proofs.laws.calls_fit.Goals as goal

pub returns : goal.returns
returns c = calls_fit
