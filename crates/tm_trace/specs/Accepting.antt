-- Which events are accepted.
use Rattle.std.specs.Prelude.{◌≡◌, List}
use Rattle.tm_base.specs.declared.events.Entry.{Entry}
use Rattle.tm_text.specs.Exercises.{ExerciseView}
use Rattle.tm_order.specs.LegalEvents.{AreLegal}
use Rattle.tm_trace.specs.Judging.{IsAccepted}

-- The events have exactly one accepted order.
pub record HaveOneOrder (x : ExerciseView) (es : List Entry) : Type 0 where
  pub order : List Entry
  pub accepted : IsAccepted x es order
  pub one : (other : List Entry) → IsAccepted x es other → other ≡ order

-- Where some order of the events is a joint run, exactly one is accepted.
abbrev pub LegalEventsAreAccepted : Type 0
LegalEventsAreAccepted = (x : ExerciseView) (es : List Entry) → AreLegal x es → HaveOneOrder x es
