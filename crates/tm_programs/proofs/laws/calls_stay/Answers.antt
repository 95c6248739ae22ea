use Rattle.tm_programs.proofs.CallsLemmas.{AllCalls-answered}
use Rattle.tm_programs.proofs.laws.calls_stay.Goals as goal

pub returns : goal.returns
returns c = λ test. AllCalls-answered _
