-- The text that a trace is printed as.
use Rattle.std.specs.Prelude.{ℕ, List, ◌++◌, codes, flat_map}
use Rattle.tm_base.specs.declared.events.Entry.{Entry}
use Rattle.tm_text.specs.CanonicalTexts.{canonical_text}
use Rattle.tm_text.specs.Exercises.{ExerciseView}
use Rattle.tm_timeline.specs.Rows.{event_text, line_end}

-- An event's text, and LF.
abbrev pub event_line : ExerciseView → Entry → List ℕ
event_line x e = event_text x e ++ line_end

-- The exercise's canonical text, the line `trace`, and the line of each event.
abbrev pub trace_text : ExerciseView → List Entry → List ℕ
trace_text x es = canonical_text x ++ codes "trace" ++ line_end ++ flat_map (event_line x) es
