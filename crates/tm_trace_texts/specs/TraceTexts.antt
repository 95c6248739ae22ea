-- The text of a trace: an exercise, a line `trace`, and lines of events.
use Rattle.std.specs.Prelude.{◌≡◌, ℕ, ◌≤◌, Bool, true, false, not, ◌||◌, List, [], ◌∷◌, ◌++◌, codes, filter, flat_map, length, map}
use Rattle.std.specs.List.{after_first, before_first, list_any}
use Rattle.std.specs.Str.{bytes_eq}
use Rattle.tm_base.specs.declared.events.Entry.{Entry}
use Rattle.tm_event_lines.specs.EventLines.{IsEventLine}
use Rattle.tm_lines.specs.Lines.{is_ignored, lines_of, without_cr, words_of}
use Rattle.tm_lines.specs.NamedLines.{word_at}
use Rattle.tm_text.specs.Exercises.{ExerciseView}
use Rattle.tm_text.specs.Texts.{IsExercise}
use Rattle.tm_timeline.specs.Rows.{line_end}
use Rattle.tm_trace_texts.specs.declared.limits.TheConstants.{MOST_TRACE_BYTES}

-- The words are `trace` alone.
abbrev pub are_trace : List (List ℕ) → Bool
are_trace [] = false
are_trace (w ∷ []) = bytes_eq w (codes "trace")
are_trace (w ∷ v ∷ ws) = false

-- The line's only word is `trace`.
abbrev pub is_trace_line : List ℕ → Bool
is_trace_line line = are_trace (words_of (without_cr line))

-- The text has such a line.
abbrev pub has_trace_line : List ℕ → Bool
has_trace_line bytes = list_any is_trace_line (lines_of bytes)

-- The lines before the first such line, and those behind it.
abbrev pub lines_before : List ℕ → List (List ℕ)
lines_before bytes = before_first is_trace_line (lines_of bytes)

abbrev pub lines_behind : List ℕ → List (List ℕ)
lines_behind bytes = map without_cr (after_first is_trace_line (lines_of bytes))

-- The lines with LF after each.
abbrev pub joined : List (List ℕ) → List ℕ
joined lines = flat_map (λ line. line ++ line_end) lines

-- The exercise part: the bytes before the first line `trace`.
abbrev pub exercise_part : List ℕ → List ℕ
exercise_part bytes = joined (lines_before bytes)

-- The first word says how a run or a check ended.
abbrev pub says_end : List (List ℕ) → Bool
says_end ws =
    bytes_eq (word_at 0 ws) (codes "done") || bytes_eq (word_at 0 ws) (codes "stuck")
    || bytes_eq (word_at 0 ws) (codes "budget") || bytes_eq (word_at 0 ws) (codes "legal")

-- A line of these words behind the line `trace` is no event line.
abbrev pub is_passed_over : List (List ℕ) → Bool
is_passed_over ws = is_ignored ws || says_end ws

-- Those of the lines that are event lines.
abbrev pub event_lines : List (List ℕ) → List (List ℕ)
event_lines lines = filter (λ line. not (is_passed_over (words_of line))) lines

-- The lines are event lines of just these events, one after the other.
abbrev pub AreEventLines : ExerciseView → List (List ℕ) → List Entry → Type 0
AreEventLines x [] [] = Unit {0}
AreEventLines x (line ∷ lines) (e ∷ es) = IsEventLine x line e × AreEventLines x lines es
AreEventLines x lines es = ⊥

-- The bytes are a text of the trace of this exercise and these events: what stands before the first line `trace` is
-- a text of the exercise, and the event lines behind it say the events, in their order.
pub record IsTraceText (bytes : List ℕ) (x : ExerciseView) (es : List Entry) : Type 0 where
  pub short : length bytes ≤ MOST_TRACE_BYTES
  pub trace : has_trace_line bytes ≡ true
  pub exercise : IsExercise (exercise_part bytes) x
  pub events : AreEventLines x (event_lines (lines_behind bytes)) es
