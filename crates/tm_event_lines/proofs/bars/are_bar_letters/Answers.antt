use Rattle.std.proofs.Common.{◌≡◌, refl, rules, subst, tests}
use Rattle.std.specs.List.{list_all}
use Rattle.std.proofs.lemmas.Fn.{fold_over, fronts, slice_gives}
use Rattle.tm_event_lines.specs.EventFaults.{is_bar_letter}
use Rattle.tm_event_lines.proofs.BarLemmas.{letters-push}
use Rattle.tm_event_lines.proofs.bars.are_bar_letters.Goals as goal

pub returns : goal.returns
returns c = subst (λ bytes. c.fold.result ≡ list_all is_bar_letter bytes) c.iter.ensures.rest
    (fold_over fronts (λ b. b.now) _ (λ letters all. all ≡ list_all is_bar_letter letters) _
    (λ letters all b after f' e k. let more = letters-push letters b.now in search (rules, tests))
    _ _ _ _ (slice_gives c.iter.result) refl c.fold.ensures.ran)
