use Rattle.std.proofs.Common.{◌≡◌, ◌<◌, length, sym, subst, rules}
use Rattle.std.specs.Prelude.{IfSome}
use Rattle.tm_text.specs.Texts.{number_in}
use Rattle.tm_event_lines.proofs.NameLemmas.{number_in-known}
use Rattle.tm_event_lines.proofs.named_objects.number_indexed.Goals as goal

pub returns-clause-known : goal.returns-clause-known
returns-clause-known c =
    let ds = c.args.exercise.now.objects in
    let is : c.copied.result ≡ number_in 0 ds c.args.name.now = search rules in
    subst (λ r. IfSome r (λ o. o < length ds)) (sym is) (number_in-known ds c.args.name.now)
