-- Each turn that isn't over has one next event, and a run that is over has none.
use Rattle.tm_session.proofs.DeterminismLemmas.{alone-one}
use Rattle.tm_session.proofs.WholeRuns.{has-alone_run}
use Rattle.tm_session.proofs.laws.exercises_have_one_alone_run.Goals as goal

pub returns-clause-exists : goal.returns-clause-exists
returns-clause-exists c = has-alone_run

pub returns-clause-unique : goal.returns-clause-unique
returns-clause-unique c = λ x rules es fs p q formed left right. alone-one x rules formed es fs p q left right
