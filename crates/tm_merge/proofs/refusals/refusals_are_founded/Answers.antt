use Rattle.tm_merge.proofs.FoundedLemmas.{founded}
use Rattle.tm_merge.proofs.refusals.refusals_are_founded.Goals as goal

pub returns : goal.returns
returns c = founded
