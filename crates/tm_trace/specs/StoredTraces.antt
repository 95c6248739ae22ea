-- How a trace is stored.
use Rattle.tm_trace.specs.declared.traces.Trace.TheInside.{Inside}
use Rattle.tm_trace.specs.Traces.{AreTraceable, TraceView}

abbrev pub trace_view : Inside → TraceView
trace_view t = record { exercise = t.exercise; entries = t.entries.items }

abbrev pub KeepsTrace : Inside → Type 0
KeepsTrace t = AreTraceable t.exercise t.entries.items
