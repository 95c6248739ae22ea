-- The law, as an interleaving.
use Rattle.tm_order.proofs.RecordedRunsLemmas.{records-show}
use Rattle.tm_order.proofs.records_show_a_run.Goals as goal

pub returns : goal.returns
returns c = λ x made seen shown held recorded clocked theirs once keeps none. records-show x made seen recorded clocked shown held theirs once keeps none
