-- What a text is answered.
use Rattle.std.proofs.Common.{◌≡◌, ℕ, ◌≤◌, nat_lt, Bool, true, false, cond, List, length, Option, Some, None, refl, sym, ap, ◌∙◌, subst, arith}
use Rattle.std.specs.Option.{option_or}
use Rattle.std.proofs.lemmas.Bool.{cond-false, cond-true}
use Rattle.std.proofs.lemmas.Bool.Decides.{nat_tests}
use Rattle.tm_base.specs.declared.events.Entry.{Entry}
use Rattle.tm_lines.specs.declared.faults.FaultyLine.{FaultyLine}
use Rattle.tm_lines.specs.TextFaults.{first_fault}
use Rattle.tm_text.specs.declared.text_faults.TextFault.{TextFault}
use Rattle.tm_text.specs.declared.text_faults.TextFault.TheVariants as text_fault
use Rattle.tm_text.specs.Exercises.{ExerciseView}
use Rattle.tm_text.specs.Readings as text
use Rattle.tm_text.specs.Texts.{IsExercise, exercise_of}
use Rattle.tm_trace_texts.specs.declared.limits.TheConstants.{MOST_TRACE_BYTES}
use Rattle.tm_trace_texts.specs.declared.trace_faults.TraceFault.{TraceFault}
use Rattle.tm_trace_texts.specs.declared.trace_faults.TraceFault.TheVariants as refusal
use Rattle.tm_trace_texts.specs.Readings.{AreRead, Refuses, events_said, of_text_fault}
use Rattle.tm_trace_texts.specs.TraceFaults.{IsFaultless, IsRefusal, TextsHaveOneTrace, fault_of_parts, first_event_fault, number_behind, trace_fault}
use Rattle.tm_trace_texts.specs.TraceTexts.{AreEventLines, IsTraceText, event_lines, exercise_part, has_trace_line, lines_behind}
use Rattle.tm_trace_texts.proofs.EventLinesLemmas.{faultless-lines, one-list, said-lines}

-- a text that is short enough and has a line `trace`
pub record IsDivided (bytes : List ℕ) : Type 0 where
  pub short : length bytes ≤ MOST_TRACE_BYTES
  pub trace : has_trace_line bytes ≡ true

-- the fault of its exercise part, and else that of an event line
abbrev part_or : List ℕ → Option FaultyLine → Option FaultyLine
part_or bytes first = option_or first (first_event_fault (exercise_of (exercise_part bytes)) (number_behind bytes) (lines_behind bytes))

not_beyond : (n : ℕ) → n ≤ MOST_TRACE_BYTES → nat_lt MOST_TRACE_BYTES n ≡ false
not_beyond n h = grind (arith, nat_tests)

fault-divided : (bytes : List ℕ) → IsDivided bytes → trace_fault bytes ≡ fault_of_parts bytes
fault-divided bytes h =
    cond-false (nat_lt MOST_TRACE_BYTES (length bytes)) _ _ (not_beyond (length bytes) h.short) ∙ cond-true (has_trace_line bytes) _ _ h.trace

fault-events : (bytes : List ℕ) (x : ExerciseView) → IsDivided bytes → IsExercise (exercise_part bytes) x → trace_fault bytes ≡ first_event_fault x (number_behind bytes) (lines_behind bytes)
fault-events bytes x h is =
    fault-divided bytes h ∙ ap (part_or bytes) is.faultless ∙ ap (λ y. first_event_fault y (number_behind bytes) (lines_behind bytes)) (sym is.said)

-- the refusals
pub refused-exercise : (bytes : List ℕ) (why : TextFault) → IsDivided bytes → text.Refuses why (first_fault (exercise_part bytes)) → IsRefusal bytes (of_text_fault why)
refused-exercise bytes (text_fault.Line line f) h found = fault-divided bytes h ∙ ap (part_or bytes) found
refused-exercise bytes text_fault.NoMemory h found = tt

pub refused-event : (bytes : List ℕ) (x : ExerciseView) (why : TraceFault) → IsDivided bytes → IsExercise (exercise_part bytes) x
    → Refuses why (first_event_fault x (number_behind bytes) (lines_behind bytes)) → IsRefusal bytes why
refused-event bytes x (refusal.Line line f) h is found = fault-events bytes x h is ∙ found
refused-event bytes x (refusal.NoTraceLine lines) h is found = absurd found
refused-event bytes x refusal.NoMemory h is found = tt

-- the trace
pub read-text : (bytes : List ℕ) (x : ExerciseView) (es : List Entry) → IsDivided bytes → IsExercise (exercise_part bytes) x → AreRead x (number_behind bytes) (lines_behind bytes) es → IsTraceText bytes x es
read-text bytes x es h is read = record {
  short = h.short;
  trace = h.trace;
  exercise = is;
  events = subst (AreEventLines x (event_lines (lines_behind bytes))) (sym read.said) (said-lines x (number_behind bytes) (lines_behind bytes) read.faultless);
}

-- no fault applies
pub unless : (b : Bool) (f : FaultyLine) (later : Option FaultyLine) → cond b (Some f) later ≡ None → (b ≡ false) × (later ≡ None)
unless true f later h = absurd (cc)
unless false f later h = (refl, h)

neither : (a b : Option FaultyLine) → option_or a b ≡ None → (a ≡ None) × (b ≡ None)
neither None b h = (refl, h)
neither (Some f) b h = absurd (cc)

within : (n : ℕ) → nat_lt MOST_TRACE_BYTES n ≡ false → n ≤ MOST_TRACE_BYTES
within n h = grind (arith, nat_tests)

accepted : (bytes : List ℕ) → IsFaultless bytes → (x : ExerciseView) × (es : List Entry) × IsTraceText bytes x es
accepted bytes h =
    let part = exercise_part bytes in
    let x = exercise_of part in
    let lines = lines_behind bytes in
    let n = number_behind bytes in
    let size = unless (nat_lt MOST_TRACE_BYTES (length bytes)) _ _ h.faultless in
    let faults = neither (first_fault part) (first_event_fault x n lines) (sym (cond-true (has_trace_line bytes) _ _ h.trace) ∙ size.1) in (
      x,
      events_said x lines,
      record {
        short = within (length bytes) size.0;
        trace = h.trace;
        exercise = record { faultless = faults.0; said = refl };
        events = said-lines x n lines faults.1;
      },
    )

pub one_trace : TextsHaveOneTrace
one_trace = record {
  one = λ bytes x y es fs h g.
      let same : x ≡ y = h.exercise.said ∙ sym g.exercise.said in
      (same, one-list y (event_lines (lines_behind bytes)) es fs (subst (λ z. AreEventLines z (event_lines (lines_behind bytes)) es) same h.events) g.events);
  faultless = λ bytes x es h. record {
    faultless = fault-events bytes x (record { short = h.short; trace = h.trace }) h.exercise ∙ faultless-lines x (number_behind bytes) (lines_behind bytes) es h.events;
    trace = h.trace;
  };
  some = accepted;
}
