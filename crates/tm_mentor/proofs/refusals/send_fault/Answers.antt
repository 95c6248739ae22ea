use Rattle.std.proofs.Common.{◌∙◌, ℕ, List, subst}
use Rattle.tm_mentor.specs.Answers.{Sends}
use Rattle.tm_mentor.specs.Outside.{output_of}
use Rattle.tm_mentor.proofs.refusals.send_fault.Goals as goal

pub returns-clause-sent : goal.returns-clause-sent
returns-clause-sent g c =
    let P : List ℕ → Type 0 = λ bytes. Sends c.fails.result (output_of g.K.Sink.written g.K.Sink.fault_count c.args.sink.now)
    (output_of g.K.Sink.written g.K.Sink.fault_count c.fails.new.sink) bytes in
    subst P (c.as_slice.ensures.value ∙ c.in_ok-written.ensures) c.fails.ensures.sent
