use Rattle.tm_text.proofs.WellFormedTexts.{exercises_are_well_formed}
use Rattle.tm_text.proofs.laws.exercises_are_well_formed.Goals as goal

pub returns : goal.returns
returns c = exercises_are_well_formed
