-- By the row.
use Rattle.tm_base.specs.Steps.{row_of}
use Rattle.tm_laws.proofs.TableRowLemmas.{Allows-reply, AllowsReply-state}
use Rattle.tm_laws.proofs.answers_are_those_of_steps.Goals as goal

pub returns : goal.returns
returns c = λ h t o r. (λ e. AllowsReply-state h.state r (row_of h.kind h.state.kind_state t o) e, λ s' step. Allows-reply h.state r s' (row_of h.kind h.state.kind_state t o) step)
