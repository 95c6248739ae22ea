use Rattle.std.proofs.Common.{◌≡◌, ◌<◌, true, false, length, sym, ap, ◌∙◌, arith}
use Rattle.std.specs.Str.{bytes_eq}
use Rattle.tm_event_lines.proofs.NameLemmas.{number_in-here, number_in-later}
use Rattle.tm_event_lines.proofs.named_objects.number_scanned.Goals as goal

pub returns-then-eq-clause-number : goal.returns-then-eq-clause-number
returns-then-eq-clause-number c =
    let ds = c.args.exercise.now.objects in
    let name = c.args.name.now in
    let within : c.loop-object.object < length ds = omega arith in
    let same : bytes_eq c.name.result name ≡ true = ap (λ n. bytes_eq n name) (sym c.bytes.ensures.value) ∙ sym c.eq.ensures ∙ c.if-eq.true in
    sym (number_in-here ds c.loop-object.object c.name.result name within c.name.ensures same) ∙ c.loop-object.invariant

pub loop-object-preserved : goal.loop-object-preserved
loop-object-preserved c =
    let ds = c.args.exercise.now.objects in
    let name = c.args.name.now in
    let within : c.loop-object.object < length ds = omega arith in
    let other : bytes_eq c.name.result name ≡ false = ap (λ n. bytes_eq n name) (sym c.bytes.ensures.value) ∙ sym c.eq.ensures ∙ c.if-eq.false in
    sym (number_in-later ds c.loop-object.object c.name.result name within c.name.ensures other) ∙ c.loop-object.invariant
