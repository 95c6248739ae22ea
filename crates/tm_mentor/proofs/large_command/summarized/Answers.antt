use Rattle.std.proofs.Common.{◌≡◌, ◌∙◌, ℕ, List, ap, subst}
use Rattle.tm_base.specs.declared.events.Entry.{Entry}
use Rattle.tm_text.specs.Exercises.{IsWellFormed}
use Rattle.tm_timeline.specs.Summaries.{summary_of}
use Rattle.tm_mentor.specs.Answers.{Sends}
use Rattle.tm_mentor.specs.Outside.{output_of}
use Rattle.tm_mentor.proofs.large_command.summarized.Goals as goal

pub returns-clause-ran : goal.returns-clause-ran
returns-clause-ran g c =
    let x = c.in_ok-exercise.exercise in
    let f = c.in_ok-finished.finished in
    let e = c.in_ok-finished.ensures in
    let same : c.as_slice-3.result.now ≡ summary_of x f.shown f.end f.cut =
    c.as_slice-3.ensures ∙ c.in_ok-text.ensures
    ∙ ap (λ (es : List Entry). summary_of x es f.end c.as_slice-2.result.now) c.as_slice.ensures
    ∙ ap (λ (cut : List ℕ). summary_of x f.shown f.end cut) c.as_slice-2.ensures in
    let P : List ℕ → Type 0 = λ bytes. Sends c.send_lines-write_fault.result (output_of g.K.Sink.written g.K.Sink.fault_count c.args.sink.now)
    (output_of g.K.Sink.written g.K.Sink.fault_count c.send_lines-write_fault.new.sink) bytes in
    record {
      exercise = x;
      formed = subst IsWellFormed c.exercise.view_is c.exercise.invariant.well_formed;
      made = c.in_ok-exercise.ensures.made;
      bytes = e.run.0;
      run = record {
        text = e.run.1;
        joint = e.legal.0;
        legal = e.legal.1;
        ended = e.ended;
        ordered = e.ordered;
        closed = e.closed;
        books = e.books;
      };
      whole = subst P same c.send_lines-write_fault.ensures.sent;
    }
