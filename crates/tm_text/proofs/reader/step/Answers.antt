use Rattle.tm_text.proofs.SpelledLemmas.{said_more}
use Rattle.tm_text.proofs.reader.step.Goals as goal

pub returns-in_ok-take-in-Said-2-clause-goes_on : goal.returns-in_ok-take-in-Said-2-clause-goes_on
returns-in_ok-take-in-Said-2-clause-goes_on c =
    said_more c.args.checker.now c.next_line.new.self c.args.objects.now c.take.new.self c.args.programs.now c.take-in-Said.new.self c.in-Said.said c.instruction.result c.in-Said.ensures c.in_ok-take-in-Said.ensures c.instruction.ensures c.in_ok-take-in-Said-2.ensures
