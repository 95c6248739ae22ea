use Rattle.tm_trace.specs.Traces.{AreTraceable}
use Rattle.tm_refusal_lines.proofs.tests.lines_of.Given as goal

-- A line can say each event so far.
abbrev pub invariant-loop-entry : goal.invariant-loop-entry
invariant-loop-entry g l = AreTraceable l.exercise l.lines.items
