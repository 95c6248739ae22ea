-- What is wrong with the text of a trace.
use Rattle.std.specs.Prelude.{◌≡◌, ℕ, suc, ◌+◌, ◌≤◌, nat_lt, true, false, if◌then◌else◌, List, [], ◌∷◌, length, Option, Some, None}
use Rattle.std.specs.Option.{option_or}
use Rattle.tm_base.specs.declared.events.Entry.{Entry}
use Rattle.tm_event_lines.specs.EventFaults.{event_fault}
use Rattle.tm_lines.specs.declared.faults.Fault.TheVariants as fault
use Rattle.tm_lines.specs.declared.faults.FaultyLine.{FaultyLine}
use Rattle.tm_lines.specs.Lines.{lines_of, words_of}
use Rattle.tm_lines.specs.TextFaults.{fault_or, first_fault}
use Rattle.tm_text.specs.Exercises.{ExerciseView}
use Rattle.tm_text.specs.Texts.{exercise_of}
use Rattle.tm_trace_texts.specs.declared.limits.TheConstants.{MOST_TRACE_BYTES}
use Rattle.tm_trace_texts.specs.declared.trace_faults.TraceFault.{TraceFault}
use Rattle.tm_trace_texts.specs.declared.trace_faults.TraceFault.TheVariants as refusal
use Rattle.tm_trace_texts.specs.TraceTexts.{IsTraceText, exercise_part, has_trace_line, is_passed_over, lines_before, lines_behind}

-- The first faulty event line of these lines, of which the first has this number.
abbrev pub first_event_fault : ExerciseView → ℕ → List (List ℕ) → Option FaultyLine
first_event_fault x n [] = None
first_event_fault x n (line ∷ lines) =
    if is_passed_over (words_of line) then first_event_fault x (suc n) lines
    else fault_or n (event_fault x line) (first_event_fault x (suc n) lines)

-- The number of the first line behind the line `trace`.
abbrev pub number_behind : List ℕ → ℕ
number_behind bytes = length (lines_before bytes) + 2

-- The first faulty line of a text with a line `trace`, numbered in the whole text: one of the exercise part, and
-- else an event line.
abbrev pub fault_of_parts : List ℕ → Option FaultyLine
fault_of_parts bytes =
    option_or (first_fault (exercise_part bytes))
    (first_event_fault (exercise_of (exercise_part bytes)) (number_behind bytes) (lines_behind bytes))

-- The first faulty line of the text of a trace; the line is 0 where the text, or its exercise part, is too long. A
-- text without a line `trace` has none.
abbrev pub trace_fault : List ℕ → Option FaultyLine
trace_fault bytes =
    if nat_lt MOST_TRACE_BYTES (length bytes) then Some (record { line = 0; kind = fault.Size })
    else (if has_trace_line bytes then fault_of_parts bytes else None)

-- The text is short enough, has so many lines, and none of them is `trace`.
pub record LacksTraceLine (bytes : List ℕ) (count : ℕ) : Type 0 where
  pub short : length bytes ≤ MOST_TRACE_BYTES
  pub none : has_trace_line bytes ≡ false
  pub lines : count ≡ length (lines_of bytes)

-- The text is refused rightly. Memory can run out at any time.
abbrev pub IsRefusal : List ℕ → TraceFault → Type 0
IsRefusal bytes (refusal.Line line kind) = trace_fault bytes ≡ Some (record { line = line; kind = kind })
IsRefusal bytes (refusal.NoTraceLine lines) = LacksTraceLine bytes lines
IsRefusal bytes refusal.NoMemory = Unit {0}

-- A text of a trace has no fault, and has a line `trace`.
pub record IsFaultless (bytes : List ℕ) : Type 0 where
  pub faultless : trace_fault bytes ≡ None
  pub trace : has_trace_line bytes ≡ true

-- A text is that of one trace at most, and of one exactly where it has a line `trace` and no fault.
pub record TextsHaveOneTrace : Type 0 where
  pub one : (bytes : List ℕ) (x y : ExerciseView) (es fs : List Entry) → IsTraceText bytes x es → IsTraceText bytes y fs
      → (x ≡ y) × (es ≡ fs)
  pub faultless : (bytes : List ℕ) (x : ExerciseView) (es : List Entry) → IsTraceText bytes x es → IsFaultless bytes
  pub some : (bytes : List ℕ) → IsFaultless bytes → (x : ExerciseView) × (es : List Entry) × IsTraceText bytes x es
