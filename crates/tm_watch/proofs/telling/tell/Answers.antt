use Rattle.std.proofs.Common.{rules}
use Rattle.tm_watch.proofs.TellingLemmas.{told-from_retain}
use Rattle.tm_watch.proofs.telling.tell.Goals as goal

pub returns : goal.returns
returns g c =
    told-from_retain _ c.args.entry.now _ _ (λ x b f' y h. search rules) _ _ c.retain_mut.ensures.filtered
