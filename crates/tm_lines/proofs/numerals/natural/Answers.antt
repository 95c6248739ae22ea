use Rattle.std.proofs.Common.{◌≡◌, ◌<◌, ◌∷◌, get_or, length, drop, suc, Some, sym, ◌∙◌, ap, drop-cons, arith}
use Rattle.tm_lines.specs.Numerals.{digits_after}
use Rattle.tm_lines.proofs.NumeralsLemmas.{digits_after-too_great, natural_of-digits}
use Rattle.tm_lines.proofs.numerals.natural.Goals as goal

pub returns-in-None : goal.returns-in-None
returns-in-None c = λ n e.
    let ds = c.args.digits.now in
    let i = c.loop-digit.digit-index in
    let within : i < length ds = omega arith in
    let some : 0 < length ds = omega arith in
    let step = drop-cons ds i 0 within in
    let all = natural_of-digits ds some in
    let left : digits_after c.loop-digit.value (get_or ds i 0 ∷ drop (suc i) ds) ≡ Some n =
    ap (digits_after c.loop-digit.value) (sym step) ∙ c.loop-digit.invariant ∙ sym all ∙ e in
    digits_after-too_great c.loop-digit.value (get_or ds i 0) (drop (suc i) ds) c.in-None.ensures n left
