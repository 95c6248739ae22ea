use Rattle.std.proofs.Common.{take}
use Rattle.tm_trace.specs.Offering.{IsOffered}
use Rattle.tm_trace.proofs.judging.offered.Given as goal

-- The merger took the events so far.
abbrev pub invariant-loop-entry : goal.invariant-loop-entry
invariant-loop-entry l = IsOffered l.trace.exercise (take l.entry-index l.entry-items) l.merger
