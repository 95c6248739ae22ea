use Rattle.std.proofs.Common.{ℕ, List, arith, subst, rules}
use Rattle.tm_trace_texts.specs.declared.limits.TheConstants.{MOST_TRACE_BYTES}
use Rattle.tm_trace_texts.specs.declared.trace_faults.TraceFault.{TraceFault}
use Rattle.tm_trace_texts.specs.declared.trace_faults.TraceFault.TheVariants as refusal
use Rattle.tm_trace_texts.specs.TraceFaults.{IsRefusal, LacksTraceLine}
use Rattle.tm_trace_texts.specs.TraceTexts.{IsTraceText}
use Rattle.tm_mentor.proofs.Judged.{few_lines, holds_of_all, refusal_spreads, trace_is_short}
use Rattle.tm_mentor.proofs.readings.read_recorded.Goals as goal

pub returns-in-Ok-clause-found : goal.returns-in-Ok-clause-found
returns-in-Ok-clause-found g c =
    let trace = c.in-Ok.trace in
    let P : List ℕ → Type 0 = λ bytes. IsTraceText bytes trace.exercise trace.entries in
    let text : IsTraceText c.in_ok-bytes.bytes trace.exercise trace.entries = subst P c.as_slice.ensures c.in-Ok.ensures.read in
    record {
      end = c.in_ok-bytes.ensures.end text.short;
      steady = search rules;
      told = holds_of_all MOST_TRACE_BYTES P _ (g.S.Source.left c.read_all.new.source) c.in_ok-bytes.bytes (trace_is_short trace.exercise trace.entries) c.in_ok-bytes.ensures.first text;
    }

pub returns-in-Err-Line-clause-found : goal.returns-in-Err-Line-clause-found
returns-in-Err-Line-clause-found g c =
    let why : TraceFault = refusal.Line c.in-Err-Line.line c.in-Err-Line.kind in
    let seen : IsRefusal c.as_slice.result.now why = subst (IsRefusal c.as_slice.result.now) c.in-Err-Line.field-0-is c.in-Err-Line.ensures.refused in
    let P : List ℕ → Type 0 = λ bytes. IsRefusal bytes why in
    record {
      taken = c.in_ok-bytes.ensures.prefix;
      steady = c.in_ok-bytes.ensures.steady;
      first = holds_of_all MOST_TRACE_BYTES P _ (g.S.Source.left c.read_all.new.source) c.in_ok-bytes.bytes (refusal_spreads why) c.in_ok-bytes.ensures.first (subst P c.as_slice.ensures seen);
    }

pub overflow_add-result : goal.overflow_add-result
overflow_add-result g c =
    let lines = c.in-Err-NoTraceLine.lines in
    let told : LacksTraceLine c.as_slice.result.now lines = subst (IsRefusal c.as_slice.result.now) c.in-Err-NoTraceLine.field-0-is c.in-Err-NoTraceLine.ensures.refused in
    let short = told.short in
    let count = told.lines in
    let few = few_lines c.as_slice.result.now in
    omega (arith, short, count, few)

pub returns-in-Err-NoTraceLine-clause-found : goal.returns-in-Err-NoTraceLine-clause-found
returns-in-Err-NoTraceLine-clause-found g c =
    let why : TraceFault = refusal.NoTraceLine c.in-Err-NoTraceLine.lines in
    let seen : IsRefusal c.as_slice.result.now why = subst (IsRefusal c.as_slice.result.now) c.in-Err-NoTraceLine.field-0-is c.in-Err-NoTraceLine.ensures.refused in
    let P : List ℕ → Type 0 = λ bytes. IsRefusal bytes why in
    record {
      lines = c.in-Err-NoTraceLine.lines;
      behind = omega arith;
      text = record {
        taken = c.in_ok-bytes.ensures.prefix;
        steady = c.in_ok-bytes.ensures.steady;
        first = holds_of_all MOST_TRACE_BYTES P _ (g.S.Source.left c.read_all.new.source) c.in_ok-bytes.bytes (refusal_spreads why) c.in_ok-bytes.ensures.first (subst P c.as_slice.ensures seen);
      };
    }
