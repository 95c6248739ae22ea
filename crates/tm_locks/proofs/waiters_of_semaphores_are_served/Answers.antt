-- The head of the queue is served, and a thread that waits was granted nothing before.
use Rattle.tm_locks.proofs.BalanceLemmas.{history-served, history-serves}
use Rattle.tm_locks.proofs.waiters_of_semaphores_are_served.Goals as goal

pub returns-clause-served : goal.returns-clause-served
returns-clause-served c = λ l start es p q e heir its run f o r. history-serves l start its es p q e heir run f o r

pub returns-clause-only : goal.returns-clause-only
returns-clause-only c = λ l start es p q e t its run f served. history-served l start its es p q e t run f served
