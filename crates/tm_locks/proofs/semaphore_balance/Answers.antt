-- Each event keeps the balance.
use Rattle.tm_locks.proofs.BalanceLemmas.{history-balance}
use Rattle.tm_locks.proofs.semaphore_balance.Goals as goal

pub returns : goal.returns
returns c = λ l start es p its run. history-balance l start its es p run
