-- The law, turn by turn.
use Rattle.tm_session.proofs.AloneEndsLemmas.{alone-ends}
use Rattle.tm_session.proofs.laws.alone_runs_end.Goals as goal

pub returns : goal.returns
returns c = λ x rules es p formed whole. (alone-ends x rules es p formed whole).0
