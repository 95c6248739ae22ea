use Rattle.tm_trace_texts.proofs.AnswersLemmas.{one_trace}
use Rattle.tm_trace_texts.proofs.laws.texts_have_one_trace.Goals as goal

pub returns : goal.returns
returns c = one_trace
