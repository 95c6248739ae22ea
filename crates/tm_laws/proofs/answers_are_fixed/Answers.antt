-- Each row of each table has one reply.
use Rattle.tm_laws.proofs.Determined.{Follows-reply}
use Rattle.tm_laws.proofs.answers_are_fixed.Goals as goal

pub returns : goal.returns
returns c = λ l es p d e q r run x y thread does. Follows-reply l p d e q r x y thread does
