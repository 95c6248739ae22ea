-- The thread's call is pending, so it makes no event before its resume; and all others find it inside.
use Rattle.tm_monitors.proofs.HoareLawsLemmas.{signal-lets_in, signalled-inside, waits-inside}
use Rattle.tm_monitors.proofs.signalled_threads_come_inside.Goals as goal

pub returns-clause-wakes : goal.returns-clause-wakes
returns-clause-wakes c = λ l count es p e q condition t its run f inside does oldest. signal-lets_in l count es p e q condition t its run f inside does oldest

pub returns-clause-waits : goal.returns-clause-waits
returns-clause-waits c = λ l count es p e q condition its run f does waits. (waits-inside l count p e q condition its f does waits, signalled-inside l count es p e q condition its run f does waits)
