use Rattle.tm_programs.proofs.Following as following
use Rattle.tm_programs.proofs.laws.rests_are_settled.Goals as goal

pub returns : goal.returns
returns c = following.rests_are_settled
