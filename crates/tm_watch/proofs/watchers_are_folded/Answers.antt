use Rattle.tm_watch.proofs.FoldedLemmas.{told_all-folded}
use Rattle.tm_watch.proofs.watchers_are_folded.Goals as goal

pub returns : goal.returns
returns c = told_all-folded
