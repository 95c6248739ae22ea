-- The law, event by event.
use Rattle.tm_replay.proofs.ClosedPrefixesLemmas.{prefixes-are_closed}
use Rattle.tm_replay.proofs.prefixes_are_closed.Goals as goal

pub returns : goal.returns
returns c = λ x es j run prefix back parts. prefixes-are_closed x es j run prefix back parts
