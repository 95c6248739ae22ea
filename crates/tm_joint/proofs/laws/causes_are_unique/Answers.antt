use Rattle.tm_joint.proofs.UniqueCauses.{IsIllegal-one}
use Rattle.tm_joint.proofs.laws.causes_are_unique.Goals as goal

pub returns : goal.returns
returns c = IsIllegal-one
