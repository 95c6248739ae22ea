use Rattle.tm_trace.proofs.MergingLemmas.{none-held}
use Rattle.tm_trace.proofs.judging.merged.Goals as goal

pub returns-in-None-clause-merged : goal.returns-in-None-clause-merged
returns-in-None-clause-merged c = record {
  merged = record {
    before = c.in_ok-merger.merger;
    offered = c.in_ok-merger.ensures.offered;
    count = c.settle.result;
    settles = c.settle.ensures.settles;
  };
  nothing_held = none-held _ c.in-None.ensures.some.1;
}
