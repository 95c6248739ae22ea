use Rattle.std.proofs.Common.{sym, subst}
use Rattle.tm_lines.specs.TextFaults.{text_lines}
use Rattle.tm_text.specs.Texts.{IsExercise}
use Rattle.tm_trace.specs.Traces.{TraceView}
use Rattle.tm_trace_texts.specs.Readings.{AreRead}
use Rattle.tm_trace_texts.specs.TraceFaults.{number_behind}
use Rattle.tm_trace_texts.specs.TraceTexts.{IsTraceText}
use Rattle.tm_trace_texts.proofs.AnswersLemmas.{read-text}
use Rattle.tm_trace_texts.proofs.reader.read_trace.Goals as goal

pub returns-in_ok-entries-in-Ok-clause-read : goal.returns-in_ok-entries-in-Ok-clause-read
returns-in_ok-entries-in-Ok-clause-read c =
    let bytes = c.args.bytes.now in
    let parts = c.in-Ok.ensures in
    let x = c.in_ok-exercise-in-Ok.exercise in
    let es = c.in_ok-entries-in-Ok.entries.items in
    let numbered = subst (λ n. AreRead x n (text_lines c.in-Ok.parts.events.now) es) parts.number c.in_ok-entries-in-Ok.ensures.read in
    subst (λ (t : TraceView). IsTraceText bytes t.exercise t.entries) (sym c.make.ensures)
    (read-text bytes x es (record { short = c.if-bytes-gt-MOST_TRACE_BYTES.false; trace = parts.trace })
    (subst (λ p. IsExercise p x) parts.exercise c.in_ok-exercise-in-Ok.ensures.read)
    (subst (λ ls. AreRead x (number_behind bytes) ls es) parts.behind numbered))
