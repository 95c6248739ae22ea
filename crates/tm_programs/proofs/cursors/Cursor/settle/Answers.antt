use Rattle.std.proofs.Common.{sym, ◌∙◌}
use Rattle.tm_programs.proofs.CursorsLemmas.{settled}
use Rattle.tm_programs.proofs.cursors.Cursor.settle.Goals as goal

pub returns-clause-left : goal.returns-clause-left
returns-clause-left c =
    let asking = rw c.in_default.is at c.local_at.ensures.value in
    sym (settled c.args.code.now c.loop-instruction.self asking c.loop-instruction.invariant.stands)
    ∙ c.loop-instruction.invariant.same
