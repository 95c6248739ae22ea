-- Kind by kind.
use Rattle.tm_laws.proofs.StepRow.{row_of-made}
use Rattle.tm_laws.proofs.rows_are_well_made.Goals as goal

pub returns : goal.returns
returns c = λ k old t o shape fit call. row_of-made k old t o shape fit call
