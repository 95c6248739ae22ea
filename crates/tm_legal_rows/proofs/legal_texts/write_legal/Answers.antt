use Rattle.std.proofs.Common.{◌++◌, ◌∙◌, List, ℕ, OnErr, Result, Ok, Err, length, refl, ap}
use Rattle.tm_legal_rows.specs.LegalTexts.{legal_line}
use Rattle.tm_legal_rows.proofs.LegalTextsLemmas.{begun-breaks, begun-none, begun-shows, sent-whole}
use Rattle.tm_legal_rows.proofs.legal_texts.write_legal.Goals as goal

on_err : {A E P : Type 0} (r : Result A E) → P → OnErr r P
on_err (Ok a) p = tt
on_err (Err e) p = p

pub returns-in_err-writer-clause-begun : goal.returns-in_err-writer-clause-begun
returns-in_err-writer-clause-begun g c =
    let written = g.K.Sink.written c.args.sink.now in
    on_err c.from_residual.result (begun-none c.args.exercise.now c.args.run.now c.requires.legal written written refl)

pub returns-in_err-write_rows-clause-begun : goal.returns-in_err-write_rows-clause-begun
returns-in_err-write_rows-clause-begun g c =
    let made = c.in_ok-writer.ensures in
    on_err c.from_residual-in_err-write_rows.result
    (begun-breaks c.args.exercise.now c.args.run.now c.requires.legal _ made.exercise _ _ made.joint _ _ c.in_err-write_rows.ensures.breaks_off)

pub returns-in_err-append_legal_line-clause-begun : goal.returns-in_err-append_legal_line-clause-begun
returns-in_err-append_legal_line-clause-begun g c =
    let made = c.in_ok-writer.ensures in
    on_err c.from_residual-in_err-append_legal_line.result
    (begun-shows c.args.exercise.now c.args.run.now c.requires.legal _ made.exercise _ _ made.joint _ _ c.in_ok-write_rows.ensures.shows)

pub returns-clause-sent : goal.returns-clause-sent
returns-clause-sent g c =
    let made = c.in_ok-writer.ensures in
    let line : List ℕ = legal_line (length c.args.run.now) in
    sent-whole c.args.exercise.now c.args.run.now _ _ _ _ _ _ _ made.exercise made.joint made.untried c.in_ok-write_rows.ensures.shows c.in_ok-write_rows.ensures.whole
    (c.in_ok-append_legal_line.ensures ∙ ap (λ (l : List ℕ). l ++ line) c.clear.ensures.items) c.send_row.ensures.sent
