use Rattle.std.proofs.Common.{take, sym, ap, ◌∙◌}
use Rattle.tm_trace_texts.proofs.PartsLemmas.{part-front, searched-more, searched-none, searched-trace}
use Rattle.tm_trace_texts.proofs.parts.Parts.of_text.Goals as goal

pub loop-rest-init : goal.loop-rest-init
loop-rest-init c = searched-none c.args.text.now

pub loop-rest-preserved : goal.loop-rest-preserved
loop-rest-preserved c =
    searched-more c.args.text.now c.loop-rest.rest.now c.first_line.result.1.now c.first_line.result.0.now c.loop-rest.lines c.loop-rest.exercise_len
    c.loop-rest.invariant c.first_line.ensures.lines c.first_line.ensures.shorter (sym c.is_trace_line.ensures ∙ c.if-is_trace_line.false)

pub returns-then-is_trace_line : goal.returns-then-is_trace_line
returns-then-is_trace_line c =
    let text = c.args.text.now in
    let next =
    searched-trace text c.loop-rest.rest.now c.first_line.result.1.now c.first_line.result.0.now c.loop-rest.lines c.loop-rest.exercise_len
    c.loop-rest.invariant c.first_line.ensures.lines c.first_line.ensures.shorter (sym c.is_trace_line.ensures ∙ c.if-is_trace_line.true) in
    record {
      trace = next.trace;
      exercise = ap (λ n. take n text) next.exercise ∙ part-front text next.trace;
      number = next.number;
      behind = next.behind;
      room = next.room;
    }
