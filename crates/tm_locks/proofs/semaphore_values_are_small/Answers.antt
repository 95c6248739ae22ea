-- Each event keeps the value small.
use Rattle.tm_locks.proofs.BalanceLemmas.{history-small}
use Rattle.tm_locks.proofs.semaphore_values_are_small.Goals as goal

pub returns : goal.returns
returns c = λ l start es p its run small. history-small l start its es p run small
