use Rattle.tm_programs.proofs.CursorsLemmas.{start-left, start-stands}
use Rattle.tm_programs.proofs.interpreters.Interpreter.make.Goals as goal

pub invariant_of-result : goal.invariant_of-result
invariant_of-result c =
    let new = c.new.ensures in
    let stands = start-stands c.args.instructions.now c.new.result new.place new.blocks c.requires.nested in
    rw c.in_ok-code.ensures (c.requires.nested, stands, new.blocks)

pub returns : goal.returns
returns c =
    let all = start-left c.args.instructions.now c.new.result c.new.ensures.place c.new.ensures.blocks in
    rw (c.in_ok-code.ensures, all, c.new.ensures.registers)
