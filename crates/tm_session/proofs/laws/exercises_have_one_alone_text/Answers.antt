-- The law, row by row.
use Rattle.tm_session.proofs.DeterministicText.{text-one}
use Rattle.tm_session.proofs.WholeTexts.{has-alone_text}
use Rattle.tm_session.proofs.laws.exercises_have_one_alone_text.Goals as goal

pub returns-clause-exists : goal.returns-clause-exists
returns-clause-exists c = has-alone_text

pub returns-clause-unique : goal.returns-clause-unique
returns-clause-unique c = text-one
