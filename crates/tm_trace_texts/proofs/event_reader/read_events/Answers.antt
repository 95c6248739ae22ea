use Rattle.std.proofs.Common.{◌≡◌, ◌∷◌, ◌++◌, map, sym, ap, ◌∙◌, subst, arith}
use Rattle.tm_lines.specs.Lines.{without_cr}
use Rattle.tm_lines.specs.TextFaults.{text_lines}
use Rattle.tm_trace.specs.Traces.{AreTraceable}
use Rattle.tm_trace_texts.specs.Readings.{Reads, Refuses, RefusesLine, events_said}
use Rattle.tm_trace_texts.specs.TraceFaults.{first_event_fault}
use Rattle.tm_trace_texts.proofs.EventLinesLemmas.{if_err}
use Rattle.tm_trace_texts.proofs.event_reader.read_events.Goals as goal

pub read_line-requires : goal.read_line-requires
read_line-requires c = subst (λ y. AreTraceable y c.loop-rest.entries.items) (sym c.in_ok-reader.ensures) c.loop-rest.invariant.traceable

pub returns-in_err-read_line-clause-refused : goal.returns-in_err-read_line-clause-refused
returns-in_err-read_line-clause-refused c =
    let x = c.args.exercise.now in
    let n = c.loop-rest.number in
    let cut : text_lines c.loop-rest.rest.now ≡ c.without_cr.result.now ∷ text_lines c.first_line.result.1.now =
    ap (map without_cr) c.first_line.ensures.lines ∙ ap (λ l. l ∷ text_lines c.first_line.result.1.now) (sym c.without_cr.ensures) in
    let faults = sym c.loop-rest.invariant.fault ∙ ap (first_event_fault x n) cut in
    let refused = subst (λ y. RefusesLine y n c.without_cr.result.now c.in_err-read_line.field-0.0) c.in_ok-reader.ensures c.in_err-read_line.ensures.refused in
    if_err c.from_residual-in_err-read_line.result _ (λ why. Refuses why (first_event_fault x c.args.first (text_lines c.args.text.now))) c.from_residual-in_err-read_line.ensures.1
    (λ why is. subst (λ w. Refuses w (first_event_fault x c.args.first (text_lines c.args.text.now))) (sym is)
    (subst (Refuses c.in_err-read_line.field-0.0) (sym faults) (refused (text_lines c.first_line.result.1.now))))

pub loop-rest-preserved : goal.loop-rest-preserved
loop-rest-preserved c =
    let x = c.args.exercise.now in
    let n = c.loop-rest.number in
    let before = c.loop-rest.entries.items in
    let after = c.read_line.new.entries.items in
    let line = c.without_cr.result.now in
    let behind = text_lines c.first_line.result.1.now in
    let cut : text_lines c.loop-rest.rest.now ≡ line ∷ behind =
    ap (map without_cr) c.first_line.ensures.lines ∙ ap (λ l. l ∷ behind) (sym c.without_cr.ensures) in
    let read = subst (λ y. Reads y n line before after) c.in_ok-reader.ensures c.in_ok-read_line.ensures.read in
    let old = c.loop-rest.invariant in
    let room = old.room in
    let shorter = c.first_line.ensures.shorter in
    record {
      said = read.said behind ∙ ap (λ ls. before ++ events_said x ls) (sym cut) ∙ old.said;
      fault = read.fault behind ∙ ap (first_event_fault x n) (sym cut) ∙ old.fault;
      traceable = subst (λ y. AreTraceable y after) c.in_ok-reader.ensures c.in_ok-read_line.ensures.traceable;
      room = omega arith;
    }
