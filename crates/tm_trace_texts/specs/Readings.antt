-- How the text of a trace is read.
use Rattle.std.specs.Prelude.{◌≡◌, ℕ, ◌+◌, ◌≤◌, true, false, List, ◌∷◌, ◌++◌, length, map, Option, Some, None}
use Rattle.tm_base.specs.declared.events.Entry.{Entry}
use Rattle.tm_event_lines.specs.EventWords.{parts_of}
use Rattle.tm_event_lines.specs.SaidWords.{entry_said}
use Rattle.tm_lines.specs.declared.faults.FaultyLine.{FaultyLine}
use Rattle.tm_lines.specs.Lines.{lines_of, words_of}
use Rattle.tm_lines.specs.TextFaults.{text_lines}
use Rattle.tm_text.specs.declared.text_faults.TextFault.{TextFault}
use Rattle.tm_text.specs.declared.text_faults.TextFault.TheVariants as text_fault
use Rattle.tm_text.specs.Exercises.{ExerciseView}
use Rattle.tm_trace.specs.Traces.{AreTraceable}
use Rattle.tm_trace_texts.specs.declared.parts.Parts.{Parts}
use Rattle.tm_trace_texts.specs.declared.trace_faults.TraceFault.{TraceFault}
use Rattle.tm_trace_texts.specs.declared.trace_faults.TraceFault.TheVariants as refusal
use Rattle.tm_trace_texts.specs.TraceFaults.{first_event_fault, number_behind}
use Rattle.tm_trace_texts.specs.TraceTexts.{event_lines, exercise_part, has_trace_line, lines_behind}

-- The fault of a trace that a fault of its exercise part is.
abbrev pub of_text_fault : TextFault → TraceFault
of_text_fault (text_fault.Line line kind) = refusal.Line line kind
of_text_fault text_fault.NoMemory = refusal.NoMemory

-- These are the parts of a text with a line `trace`.
pub record AreParts (text : List ℕ) (parts : Parts) : Type 0 where
  pub trace : has_trace_line text ≡ true
  pub exercise : parts.exercise.now ≡ exercise_part text
  pub number : parts.number ≡ number_behind text
  pub behind : text_lines parts.events.now ≡ lines_behind text
  pub room : parts.number + length parts.events.now ≤ length text + 2

-- The text has so many lines, and none of them is `trace`.
pub record HasNoTraceLine (text : List ℕ) (count : ℕ) : Type 0 where
  pub none : has_trace_line text ≡ false
  pub lines : count ≡ length (lines_of text)

-- The event that the line says.
abbrev pub event_said : ExerciseView → List ℕ → Entry
event_said x line = entry_said x.objects (parts_of (words_of line))

-- The events that the event lines of these say.
abbrev pub events_said : ExerciseView → List (List ℕ) → List Entry
events_said x lines = map (event_said x) (event_lines lines)

-- The lines, of which the first has this number, are refused rightly.
abbrev pub Refuses : TraceFault → Option FaultyLine → Type 0
Refuses (refusal.Line line kind) found = found ≡ Some (record { line = line; kind = kind })
Refuses (refusal.NoTraceLine lines) found = ⊥
Refuses refusal.NoMemory found = Unit {0}

-- So is the line with this number, whatever lines follow it.
abbrev pub RefusesLine : ExerciseView → ℕ → List ℕ → TraceFault → Type 0
RefusesLine x n line why = (lines : List (List ℕ)) → Refuses why (first_event_fault x n (line ∷ lines))

-- The line with this number was read, after which the events are these.
pub record Reads (x : ExerciseView) (n : ℕ) (line : List ℕ) (old new : List Entry) : Type 0 where
  pub said : (lines : List (List ℕ)) → new ++ events_said x lines ≡ old ++ events_said x (line ∷ lines)
  pub fault : (lines : List (List ℕ)) → first_event_fault x (n + 1) lines ≡ first_event_fault x n (line ∷ lines)

-- The lines, of which the first has this number, have no fault, and say these events.
pub record AreRead (x : ExerciseView) (n : ℕ) (lines : List (List ℕ)) (es : List Entry) : Type 0 where
  pub faultless : first_event_fault x n lines ≡ None
  pub said : es ≡ events_said x lines
  pub traceable : AreTraceable x es
