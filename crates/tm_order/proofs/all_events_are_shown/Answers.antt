-- The law, by the least stamp of what is held back.
use Rattle.tm_order.proofs.ReadyLemmas.{all-shown}
use Rattle.tm_order.proofs.all_events_are_shown.Goals as goal

pub returns : goal.returns
returns c = λ es shown held placed rises permutation none. all-shown es shown held placed rises permutation none
