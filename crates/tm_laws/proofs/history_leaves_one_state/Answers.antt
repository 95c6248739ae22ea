-- From each state an event leads to one state alone.
use Rattle.tm_laws.proofs.Determined.{history-one}
use Rattle.tm_laws.proofs.history_leaves_one_state.Goals as goal

pub returns : goal.returns
returns c = λ l es p q x y. history-one l es p q x y
