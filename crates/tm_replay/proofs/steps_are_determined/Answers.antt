-- The law, field by field of the two events.
use Rattle.tm_replay.proofs.DeterminedStepsLemmas.{Happens-one}
use Rattle.tm_replay.proofs.steps_are_determined.Goals as goal

pub returns : goal.returns
returns c = λ x y j k m e f step other. Happens-one j k m e f step.happens other.happens
