use Rattle.std.proofs.Common.{◌≡◌, refl, rules, subst, tests}
use Rattle.std.specs.List.{list_all}
use Rattle.std.proofs.lemmas.Fn.{fold_over, fronts, slice_gives}
use Rattle.tm_lines.specs.Lines.{is_printed}
use Rattle.tm_lines.proofs.LinesLemmas.{printed-push}
use Rattle.tm_lines.proofs.lines.is_printed.Goals as goal

pub returns : goal.returns
returns c = subst (λ line. c.fold.result ≡ list_all is_printed line) c.iter.ensures.rest
    (fold_over fronts (λ b. b.now) _ (λ line all. all ≡ list_all is_printed line) _
    (λ line all b after f' e k. let more = printed-push line b.now in search (rules, tests))
    _ _ _ _ (slice_gives c.iter.result) refl c.fold.ensures.ran)
