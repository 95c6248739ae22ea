use Rattle.std.proofs.lemmas.Result.{IfOk-weaker}
use Rattle.tm_text.specs.Exercises.{instructions_of}
use Rattle.tm_text.proofs.PrinterLemmas.{long_program}
use Rattle.tm_text.proofs.printer.push_program.Goals as goal

pub returns-clause-long : goal.returns-clause-long
returns-clause-long c =
    let x = c.args.exercise.now in
    IfOk-weaker c.push_line.result _ _
    (λ done printed.
    long_program x.objects c.instructions-instructions.result.now (instructions_of x c.args.thread) c.loop-instruction.instruction-index c.instructions-instructions.ensures c.loop-instruction-test.false c.loop-instruction.invariant.long)
    c.push_line.ensures
