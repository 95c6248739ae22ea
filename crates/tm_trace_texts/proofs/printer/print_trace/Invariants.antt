use Rattle.std.proofs.Common.{◌≡◌, take}
use Rattle.tm_trace_texts.specs.PrintedTraces.{trace_text}
use Rattle.tm_trace_texts.proofs.PrintedLemmas.{AreLong}
use Rattle.tm_trace_texts.proofs.printer.print_trace.Given as goal

abbrev pub invariant-loop-entry : goal.invariant-loop-entry
invariant-loop-entry l = record {
  text : l.out.items ≡ trace_text l.trace.exercise (take l.entry-index l.entry-items);
  long : AreLong (take l.entry-index l.entry-items);
}
