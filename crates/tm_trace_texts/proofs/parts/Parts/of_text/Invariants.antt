use Rattle.std.proofs.Common.{length}
use Rattle.tm_trace_texts.proofs.PartsLemmas.{IsSearched}
use Rattle.tm_trace_texts.proofs.parts.Parts.of_text.Given as goal

abbrev pub invariant-loop-rest : goal.invariant-loop-rest
invariant-loop-rest l = IsSearched l.text l.rest l.lines l.exercise_len

abbrev pub decreases-loop-rest : goal.decreases-loop-rest
decreases-loop-rest l = length l.rest
