use Rattle.std.proofs.Common.{◌∷◌, [], refl}
use Rattle.tm_lines.specs.PlainLines.{CutsWords}
use Rattle.tm_lines.proofs.PlainLinesLemmas.{cuts-then, plain_line-ends}
use Rattle.tm_lines.proofs.plain_lines.plain_line.Goals as goal

pub returns-in-Some : goal.returns-in-Some
returns-in-Some c =
    plain_line-ends c.args.bytes.now [] c.after_blanks-rest.result.now _ c.requires
    c.after_blanks-rest.ensures c.in-Some.ensures
    refl (record { first = refl; second = refl; third = refl; fourth = refl; count = refl })

pub returns-in-Some-after_end : goal.returns-in-Some-after_end
returns-in-Some-after_end c =
    let bytes = c.args.bytes.now in
    let first = c.in_ok-first.first.now in
    let one : CutsWords bytes (first ∷ []) c.in_ok-first.rest.now =
    cuts-then bytes [] c.after_blanks-rest.result.now (first ∷ []) c.in_ok-first.rest.now c.after_blanks-rest.ensures c.in_ok-first.ensures in
    plain_line-ends bytes (first ∷ []) c.in_ok-first.rest.now _ c.requires one c.in-Some-after_end.ensures
    refl (record { first = refl; second = refl; third = refl; fourth = refl; count = refl })

pub returns-in-Some-after_end-2 : goal.returns-in-Some-after_end-2
returns-in-Some-after_end-2 c =
    let bytes = c.args.bytes.now in
    let first = c.in_ok-first.first.now in
    let second = c.in_ok-second.second.now in
    let one : CutsWords bytes (first ∷ []) c.in_ok-first.rest.now =
    cuts-then bytes [] c.after_blanks-rest.result.now (first ∷ []) c.in_ok-first.rest.now c.after_blanks-rest.ensures c.in_ok-first.ensures in
    let two : CutsWords bytes (first ∷ second ∷ []) c.in_ok-second.rest.now =
    cuts-then bytes (first ∷ []) c.in_ok-first.rest.now (second ∷ []) c.in_ok-second.rest.now one c.in_ok-second.ensures in
    plain_line-ends bytes (first ∷ second ∷ []) c.in_ok-second.rest.now _ c.requires two c.in-Some-after_end-2.ensures
    refl (record { first = refl; second = refl; third = refl; fourth = refl; count = refl })

pub returns : goal.returns
returns c =
    let bytes = c.args.bytes.now in
    let first = c.in_ok-first.first.now in
    let second = c.in_ok-second.second.now in
    let third = c.in_ok-third.third.now in
    let one : CutsWords bytes (first ∷ []) c.in_ok-first.rest.now =
    cuts-then bytes [] c.after_blanks-rest.result.now (first ∷ []) c.in_ok-first.rest.now c.after_blanks-rest.ensures c.in_ok-first.ensures in
    let two : CutsWords bytes (first ∷ second ∷ []) c.in_ok-second.rest.now =
    cuts-then bytes (first ∷ []) c.in_ok-first.rest.now (second ∷ []) c.in_ok-second.rest.now one c.in_ok-second.ensures in
    let three : CutsWords bytes (first ∷ second ∷ third ∷ []) c.in_ok-third.rest.now =
    cuts-then bytes (first ∷ second ∷ []) c.in_ok-second.rest.now (third ∷ []) c.in_ok-third.rest.now two c.in_ok-third.ensures in
    plain_line-ends bytes (first ∷ second ∷ third ∷ []) c.in_ok-third.rest.now _ c.requires three c.in_ok-next.ensures
    refl (record { first = refl; second = refl; third = refl; fourth = refl; count = refl })
