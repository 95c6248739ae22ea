use Rattle.std.proofs.Common.{ℕ, List, ap, sym, subst}
use Rattle.tm_mentor.specs.Answers.{Sends}
use Rattle.tm_mentor.specs.Outside.{output_of}
use Rattle.tm_mentor.specs.Refusals.{line_of}
use Rattle.tm_mentor.proofs.refusals.send_line.Goals as goal

pub returns-in-ReadFault-clause-sent : goal.returns-in-ReadFault-clause-sent
returns-in-ReadFault-clause-sent g c =
    let P : List ℕ → Type 0 = λ bytes. Sends c.fails-in-ReadFault.result (output_of g.K.Sink.written g.K.Sink.fault_count c.args.sink.now)
    (output_of g.K.Sink.written g.K.Sink.fault_count c.fails-in-ReadFault.new.sink) bytes in
    subst P (sym (ap line_of c.in-ReadFault.is)) c.fails-in-ReadFault.ensures.sent
