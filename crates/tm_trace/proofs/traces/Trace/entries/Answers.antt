use Rattle.std.proofs.Common.{subst}
use Rattle.tm_trace.specs.Traces.{AreTraceable, TraceView}
use Rattle.tm_trace.proofs.traces.Trace.entries.Goals as goal

pub returns-clause-traceable : goal.returns-clause-traceable
returns-clause-traceable c = subst (λ (t : TraceView). AreTraceable t.exercise t.entries) c.self.view_is c.self.invariant
