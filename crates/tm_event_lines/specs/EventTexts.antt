-- The texts of events are read back.
use Rattle.std.specs.Prelude.{◌≡◌, ℕ, ◌^◌, ◌<◌, ℤ, ◌≤ℤ◌, List, ◌++◌, flat_map, codes}
use Rattle.std.specs.Fmt.{decimal}
use Rattle.tm_base.specs.declared.bars.Bar.{Bar}
use Rattle.tm_base.specs.declared.events.Entry.{Entry}
use Rattle.tm_base.specs.declared.operations.Op.{Op}
use Rattle.tm_base.specs.declared.operations.Op.TheVariants as op
use Rattle.tm_base.specs.declared.replies.Reply.{Reply}
use Rattle.tm_base.specs.declared.replies.Reply.TheVariants as reply
use Rattle.tm_lines.specs.declared.limits.TheConstants.{GREATEST_NUMBER, LEAST_NUMBER}
use Rattle.tm_text.specs.Exercises.{ExerciseView, IsWellFormed}
use Rattle.tm_timeline.specs.Rows.{event_text, line_end, row_of}
use Rattle.tm_timeline.specs.TraceableEvents.{IsTraceable}
use Rattle.tm_timeline.specs.Words.{bar_letter}
use Rattle.tm_event_lines.specs.EventLines.{IsEventLine}

-- The value is one of 64 bits.
pub record IsLong (value : ℤ) : Type 0 where
  pub least : LEAST_NUMBER ≤ℤ value
  pub greatest : value ≤ℤ GREATEST_NUMBER

-- The value that the operation has, where it has one, is of 64 bits.
abbrev pub HasLongValue : Op → Type 0
HasLongValue (op.Send value) = IsLong value
HasLongValue (op.Write value) = IsLong value
HasLongValue (op.Add value) = IsLong value
HasLongValue o = Unit {0}

-- The value that the reply brings, where it brings one, is of 64 bits.
abbrev pub BringsLongValue : Reply → Type 0
BringsLongValue (reply.Got value) = IsLong value
BringsLongValue r = Unit {0}

-- The values of the event are of 64 bits, as all are that are stored.
pub record HasLongValues (e : Entry) : Type 0 where
  pub op : HasLongValue e.op
  pub reply : BringsLongValue e.reply

-- A row without its LF.
abbrev pub row_line : ExerciseView → ℕ → Entry → List Bar → List ℕ
row_line x n e bars = decimal n ++ codes " " ++ event_text x e ++ codes " [" ++ flat_map bar_letter bars ++ codes "]"

-- The event's text is an event line of just this event, and so is each row of it.
pub record ReadsBack (x : ExerciseView) (e : Entry) : Type 0 where
  pub text : IsEventLine x (event_text x e) e
  pub row : (n : ℕ) (bars : List Bar) → n < 2 ^ 64 → IsEventLine x (row_line x n e bars) e

-- Each event that a trace can have is read back from its text and its rows.
abbrev pub EventTextsReadBack : Type 0
EventTextsReadBack = (x : ExerciseView) (e : Entry) → IsWellFormed x → IsTraceable x e → HasLongValues e → ReadsBack x e

-- A row is its line and an LF.
abbrev pub RowsAreLines : Type 0
RowsAreLines = (x : ExerciseView) (n : ℕ) (e : Entry) (bars : List Bar) → row_of x n e bars ≡ row_line x n e bars ++ line_end

-- What an event line says is an event that a trace can have, and its values are of 64 bits.
pub record IsReadEvent (x : ExerciseView) (e : Entry) : Type 0 where
  pub traceable : IsTraceable x e
  pub values : HasLongValues e

abbrev pub EventLinesSayEvents : Type 0
EventLinesSayEvents = (x : ExerciseView) (line : List ℕ) (e : Entry) → IsWellFormed x → IsEventLine x line e → IsReadEvent x e
