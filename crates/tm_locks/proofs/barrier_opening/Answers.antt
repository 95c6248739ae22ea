-- The last party grants all that wait, and nothing else grants them `ok`.
use Rattle.tm_locks.proofs.OpeningLemmas.{history-lets_go, history-opens, history-parties}
use Rattle.tm_locks.proofs.barrier_opening.Goals as goal

pub returns-clause-opens : goal.returns-clause-opens
returns-clause-opens c = λ l parties es p q e its run f o r. history-opens l parties its es p q e run f o r

pub returns-clause-only : goal.returns-clause-only
returns-clause-only c = λ l parties es p q e t its run f waits had. history-lets_go l parties its es p q e t run f waits had

pub returns-clause-needs_parties : goal.returns-clause-needs_parties
returns-clause-needs_parties c = λ l parties es p q e its run f r. history-parties l parties its es p q e run f r
