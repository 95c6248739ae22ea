use Rattle.tm_mentor.proofs.Statuses.{statuses_name}
use Rattle.tm_mentor.proofs.outcomes.statuses_name_answers.Goals as goal

pub returns : goal.returns
returns c = statuses_name
