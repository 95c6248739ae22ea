use Rattle.std.proofs.Common.{◌-◌, [], slice_index_or, arith, ap, sym}
use Rattle.std.proofs.lemmas.Grind.{common_steps}
use Rattle.tm_text.proofs.ProgramsLemmas.{instructions_of-at}
use Rattle.tm_text.proofs.exercises.Exercise.instructions.Goals as goal

pub returns : goal.returns
returns c =
    let at = instructions_of-at c.args.self.now c.args.thread c.requires.program in
    let seen = ap (λ v. slice_index_or v.programs (c.args.thread - 1) []) (sym c.self.view_is) in
    grind (arith, common_steps, at, seen)
