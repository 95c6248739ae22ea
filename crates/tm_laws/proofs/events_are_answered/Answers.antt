-- A well-made row has a reply, which leaves a state.
use Rattle.tm_laws.proofs.AnsweredLemmas.{Lawful-answered}
use Rattle.tm_laws.proofs.events_are_answered.Goals as goal

pub returns : goal.returns
returns c = λ h t o sound can. Lawful-answered h t o sound can
