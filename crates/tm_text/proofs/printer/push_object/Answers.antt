use Rattle.std.proofs.Common.{ap}
use Rattle.tm_text.specs.Exercises.{thread_of_kind}
use Rattle.tm_text.proofs.PrinterLemmas.{behind_known}
use Rattle.tm_text.proofs.printer.push_object.Goals as goal

pub push_program-requires : goal.push_program-requires
push_program-requires c =
    let known = behind_known c.args.exercise.now c.threads-threads.ensures.well_formed c.args.object c.in-Thread.own c.kind-kind.result c.requires c.kind-kind.ensures (ap thread_of_kind c.in-Thread.is) in
    record { program = known.0; known = known.1 }
