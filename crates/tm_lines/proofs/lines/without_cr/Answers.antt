use Rattle.std.proofs.Common.{◌≡◌, ap, ◌∙◌, ◌∷◌, ◌++◌, [], sym, rules}
use Rattle.std.proofs.lemmas.Slice.Eq.{strip_suffix_is}
use Rattle.std.proofs.lemmas.Bool.Decides.{Decides-eqb}
use Rattle.std.proofs.lemmas.Option.{MatchOption-at_none, MatchOption-at_some}
use Rattle.tm_lines.specs.Lines.{without_cr}
use Rattle.tm_lines.proofs.LinesLemmas.{without_cr-cr, without_cr-none}
use Rattle.tm_lines.proofs.lines.without_cr.Goals as goal

pub returns-in-None : goal.returns-in-None
returns-in-None c =
    let cr : c.as_slice.result.now ≡ 13 ∷ [] = search rules in
    let at = strip_suffix_is Decides-eqb c.args.line.now c.as_slice.result.now c.strip_suffix.result c.strip_suffix.ensures.cases in
    let none = MatchOption-at_none _ _ c.in-None.is at in
    sym (without_cr-none c.args.line.now (λ prefix e. none prefix (rw cr e)))

pub returns-in-Some : goal.returns-in-Some
returns-in-Some c =
    let cr : c.as_slice.result.now ≡ 13 ∷ [] = search rules in
    let at = strip_suffix_is Decides-eqb c.args.line.now c.as_slice.result.now c.strip_suffix.result c.strip_suffix.ensures.cases in
    let here = MatchOption-at_some _ _ c.in-Some.prefix c.in-Some.is at in
    sym (without_cr-cr c.in-Some.prefix.now) ∙ ap without_cr (sym (here ∙ ap (λ p. c.in-Some.prefix.now ++ p) cr))
