-- Row by row.
use Rattle.tm_legal_rows.proofs.LegalTextsLemmas.{has-text, text-one}
use Rattle.tm_legal_rows.proofs.laws.legal_runs_have_one_text.Goals as goal

pub returns-clause-exists : goal.returns-clause-exists
returns-clause-exists c = has-text

pub returns-clause-unique : goal.returns-clause-unique
returns-clause-unique c = text-one
