-- What contracts see of a trace.
use Rattle.std.specs.Prelude.{List, Contains}
use Rattle.tm_base.specs.declared.events.Entry.{Entry}
use Rattle.tm_text.specs.Exercises.{ExerciseView}
use Rattle.tm_timeline.specs.TraceableEvents.{IsTraceable}

-- The exercise, and the events in the order of their lines.
pub record TraceView : Type 0 where
  pub exercise : ExerciseView
  pub entries : List Entry

-- A line of a trace can say each of the events.
abbrev pub AreTraceable : ExerciseView → List Entry → Type 0
AreTraceable x es = (e : Entry) → Contains es e → IsTraceable x e
