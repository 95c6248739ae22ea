use Rattle.std.proofs.Common.{◌≡◌, ◌+◌, ◌-◌, ◌<◌, Some, cond, drop, length, sym, ap, ◌∙◌, arith}
use Rattle.std.specs.HashMap as hash
use Rattle.std.specs.Str.{bytes_eq}
use Rattle.tm_text.specs.Texts.{number_in}
use Rattle.tm_event_lines.proofs.IndexLemmas.{updated}
use Rattle.tm_event_lines.proofs.NameLemmas.{number_in-at}
use Rattle.tm_event_lines.proofs.named_objects.NamedObjects.indexed.Goals as goal

pub loop-object-preserved : goal.loop-object-preserved
loop-object-preserved c = λ name.
    let ds = c.args.exercise.now.objects in
    let at = c.loop-object in
    let o = at.object - 1 in
    let within : o < length ds = omega arith in
    let next : at.object ≡ o + 1 = omega arith in
    updated (λ k. k.items) _ at.numbers c.insert.new.self (Some o) c.in_ok-insert.ensures.updates name
    ∙ ap (λ bs. cond (bytes_eq bs name) (Some o) (hash.get_by (λ k. bytes_eq name k.items) at.numbers)) (c.in_ok-from_slice.ensures.items ∙ c.bytes.ensures.value)
    ∙ ap (cond (bytes_eq c.name-name.result name) (Some o)) (at.invariant name ∙ ap (λ n. number_in n (drop n ds) name) next)
    ∙ sym (number_in-at ds o c.name-name.result name within c.name-name.ensures)
