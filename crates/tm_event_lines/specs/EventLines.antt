-- Event lines, and that the text of an event is one.
use Rattle.std.specs.Prelude.{◌≡◌, ℕ, List, None}
use Rattle.tm_base.specs.declared.events.Entry.{Entry}
use Rattle.tm_lines.specs.Lines.{words_of}
use Rattle.tm_text.specs.Exercises.{ExerciseView}
use Rattle.tm_event_lines.specs.EventFaults.{event_fault}
use Rattle.tm_event_lines.specs.EventWords.{parts_of}
use Rattle.tm_event_lines.specs.SaidWords.{entry_said}

-- The line is an event line of just this event: it has no fault, and its words say the event.
pub record IsEventLine (x : ExerciseView) (line : List ℕ) (e : Entry) : Type 0 where
  pub faultless : event_fault x line ≡ None
  pub said : e ≡ entry_said x.objects (parts_of (words_of line))
