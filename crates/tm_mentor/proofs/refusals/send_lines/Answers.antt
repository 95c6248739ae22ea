use Rattle.std.proofs.Common.{ap, ◌∙◌}
use Rattle.std.proofs.lemmas.List.{take_rest}
use Rattle.tm_base.specs.Counters.{next_count}
use Rattle.tm_mentor.proofs.Sent.{line_fails, line_more, line_within}
use Rattle.tm_mentor.proofs.refusals.send_lines.Goals as goal

pub returns-then-fails-clause-sent : goal.returns-then-fails-clause-sent
returns-then-fails-clause-sent g c =
    let is = rw take_rest at c.split_at.ensures.front in
    let i = c.loop-sent.invariant in (
      c.if-fails.ensures.sent.0 ∙ ap next_count i.steady,
      line_fails _ _ _ c.args.text.now _ c.loop-sent.sent c.line_len.result i.appended is c.if-fails.ensures.sent.1,
    )

pub loop-sent-preserved : goal.loop-sent-preserved
loop-sent-preserved g c =
    let is = rw take_rest at c.split_at.ensures.front in
    let within = rw take_rest at c.line_len.ensures.within in
    let i = c.loop-sent.invariant in
    record {
      in_range = line_within c.args.text.now _ c.loop-sent.sent c.line_len.result i.in_range within c.split_at.ensures.front_len;
      appended = line_more _ _ _ c.args.text.now _ c.loop-sent.sent c.line_len.result i.appended is c.split_at.ensures.front_len c.if-fails.ensures.sent.1;
      steady = c.if-fails.ensures.sent.0 ∙ i.steady;
    }
