-- Each event leaves the value that its operation says, from the first value on.
use Rattle.tm_channels.proofs.AssignmentsLemmas.{gets-value}
use Rattle.tm_channels.proofs.reads_get_what_was_written.Goals as goal

pub returns : goal.returns
returns c = λ l start es p its run prefix back e parts. gets-value l start its es p run prefix back e parts
