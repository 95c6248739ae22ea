use Rattle.std.proofs.Common.{◌≡◌, ◌+◌, ◌≤◌, ◌++◌, length}
use Rattle.tm_lines.specs.TextFaults.{text_lines}
use Rattle.tm_trace.specs.Traces.{AreTraceable}
use Rattle.tm_trace_texts.specs.Readings.{events_said}
use Rattle.tm_trace_texts.specs.TraceFaults.{first_event_fault}
use Rattle.tm_trace_texts.proofs.event_reader.read_events.Given as goal

abbrev pub invariant-loop-rest : goal.invariant-loop-rest
invariant-loop-rest l = record {
  said : l.entries.items ++ events_said l.exercise (text_lines l.rest) ≡ events_said l.exercise (text_lines l.text);
  fault : first_event_fault l.exercise l.number (text_lines l.rest) ≡ first_event_fault l.exercise l.first (text_lines l.text);
  traceable : AreTraceable l.exercise l.entries.items;
  room : l.number + length l.rest ≤ l.first + length l.text;
}

abbrev pub decreases-loop-rest : goal.decreases-loop-rest
decreases-loop-rest l = length l.rest
