use Rattle.tm_joint.proofs.RefusalsLemmas.{Refuses-no_step}
use Rattle.tm_joint.proofs.laws.refused_events_are_no_steps.Goals as goal

pub returns : goal.returns
returns c x j k e refusal illegal step = Refuses-no_step x j k e refusal.cause illegal.1 step
