-- Each event leaves the lock in order.
use Rattle.tm_locks.proofs.ExclusionLemmas.{history-exclusive}
use Rattle.tm_locks.proofs.reader_writer_exclusion.Goals as goal

pub returns : goal.returns
returns c = λ l es p its run. history-exclusive l its es p run
