-- Event by event, as long as the begun run goes on.
use Rattle.tm_session.proofs.DeterminismLemmas.{begun-prefix}
use Rattle.tm_session.proofs.laws.begun_runs_are_prefixes.Goals as goal

pub returns : goal.returns
returns c = λ x rules es fs p q formed begun whole. begun-prefix x rules formed es fs p q begun whole
