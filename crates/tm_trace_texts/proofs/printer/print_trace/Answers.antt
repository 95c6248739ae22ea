use Rattle.std.proofs.Common.{◌≡◌, ◌<◌, ◌≤◌, List, get_or, length, take, Contains, sym, ap, ◌∙◌, subst, arith}
use Rattle.std.proofs.lemmas.List.{take_all}
use Rattle.std.proofs.lemmas.List.Elements.{Contains-get_or}
use Rattle.tm_base.specs.declared.events.Entry.{Entry}
use Rattle.tm_lines.specs.declared.limits.TheConstants.{MOST_BYTES}
use Rattle.tm_text.specs.CanonicalTexts.{canonical_text}
use Rattle.tm_text.specs.Exercises.{ExerciseView, IsWellFormed}
use Rattle.tm_text.specs.Texts.{IsExercise}
use Rattle.tm_timeline.specs.TraceableEvents.{IsTraceable}
use Rattle.tm_trace_texts.specs.declared.limits.TheConstants.{MOST_TRACE_BYTES}
use Rattle.tm_trace_texts.specs.PrintedTraces.{trace_text}
use Rattle.tm_trace_texts.specs.TraceTexts.{IsTraceText}
use Rattle.tm_trace_texts.proofs.PrintedLemmas.{AreLong, long-more, printed-more, reads-back}
use Rattle.tm_trace_texts.proofs.printer.print_trace.Goals as goal

pub append_line-requires : goal.append_line-requires
append_line-requires c =
    let items = c.entries-entry-items.result.now in
    let within : c.loop-entry.entry-index < length items = omega arith in
    let e = get_or items c.loop-entry.entry-index _ in
    let there : Contains items e = Contains-get_or items c.loop-entry.entry-index _ within in
    subst (λ (x : ExerciseView). IsTraceable x e) (sym c.exercise-exercise.ensures)
    (c.entries-entry-items.ensures.traceable e (subst (λ (l : List Entry). Contains l e) c.entries-entry-items.ensures.value there))

pub loop-entry-preserved : goal.loop-entry-preserved
loop-entry-preserved c =
    let x = c.args.trace.now.exercise in
    let items = c.entries-entry-items.result.now in
    let i = c.loop-entry.entry-index in
    let within : i < length items = omega arith in
    record {
      text = printed-more x _ items i _ c.loop-entry.out.items c.append_line.new.out.items c.exercise-exercise.ensures within c.in_ok-append_line.ensures.text c.loop-entry.invariant.text;
      long = long-more items i _ within c.append_line.ensures.long c.loop-entry.invariant.long;
    }

pub returns-clause-reads_back : goal.returns-clause-reads_back
returns-clause-reads_back c = λ short few.
    let x = c.args.trace.now.exercise in
    let es = c.args.trace.now.entries in
    let items = c.entries-entry-items.result.now in
    let all : take c.loop-entry.entry-index items ≡ es = take_all c.loop-entry.entry-index items (omega arith) ∙ c.entries-entry-items.ensures.value in
    let text : c.from_vec.result ≡ trace_text x es = c.from_vec.ensures ∙ c.loop-entry.invariant.text ∙ ap (trace_text x) all in
    let printed : c.in_ok-print.field-0 ≡ canonical_text x = c.in_ok-print.ensures.text ∙ ap canonical_text c.exercise-exercise.ensures in
    let fits : length c.in_ok-print.field-0 ≤ MOST_BYTES = subst (λ bytes. length bytes ≤ MOST_BYTES) (sym printed) few in
    let is : IsExercise (canonical_text x) x =
    subst (λ bytes. IsExercise bytes x) printed (subst (IsExercise c.in_ok-print.field-0) c.exercise-exercise.ensures (c.in_ok-print.ensures.reads_back fits)) in
    subst (λ bytes. IsTraceText bytes x es) (sym text)
    (reads-back x es is c.event_texts_read_back.ensures.back (subst IsWellFormed c.exercise-exercise.ensures c.threads-threads.ensures.well_formed) c.entries-entry-items.ensures.traceable
    (subst AreLong all c.loop-entry.invariant.long) (subst (λ bytes. length bytes ≤ MOST_TRACE_BYTES) text short))
