use Rattle.std.proofs.Common.{ap, ◌∙◌, sym}
use Rattle.std.specs.List.{list_any}
use Rattle.std.specs.Str.{bytes_eq}
use Rattle.tm_lines.specs.LineFaults.{Place}
use Rattle.tm_lines.proofs.PlacesLemmas.{list_any-earlier}
use Rattle.tm_lines.proofs.places.Place.has_name.Goals as goal

pub returns : goal.returns
returns c =
    let earlier : Place → _ = λ p. list_any (λ n. bytes_eq n c.args.name.now) p.earlier in
    c.contains.ensures ∙ ap (list_any (λ n. bytes_eq n.now c.args.name.now)) c.as_slice.ensures.value
    ∙ sym (list_any-earlier (λ n. bytes_eq n c.args.name.now) c.self.inside.names.items) ∙ ap earlier c.self.view_is
