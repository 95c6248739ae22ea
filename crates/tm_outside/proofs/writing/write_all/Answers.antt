use Rattle.std.proofs.Common.{◌∙◌, arith, length-drop}
use Rattle.std.proofs.lemmas.List.{take_rest}
use Rattle.tm_outside.proofs.AppendingLemmas.{Appends-more}
use Rattle.tm_outside.proofs.writing.write_all.Goals as goal

pub loop-sent-preserved : goal.loop-sent-preserved
loop-sent-preserved g c =
    let more = rw take_rest at c.in-Ok.ensures.bytes in
    let within = rw (take_rest, length-drop) at c.in-Ok.ensures.within in
    record {
      in_range = omega (arith, within);
      appended = Appends-more _ _ _ c.args.piece.now c.loop-sent.sent c.in-Ok.n c.loop-sent.invariant.appended more;
      steady = c.in-Ok.ensures.steady ∙ c.loop-sent.invariant.steady;
    }
