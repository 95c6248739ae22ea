-- Before the event the thread has ended, and only an end makes it so.
use Rattle.tm_channels.proofs.JoinsLemmas.{granted-after, joins-after}
use Rattle.tm_channels.proofs.joins_come_after_the_end.Goals as goal

pub returns-clause-answers : goal.returns-clause-answers
returns-clause-answers c = λ l own held es p its run prefix back e parts joined. joins-after l own held its es p run prefix back e parts joined

pub returns-clause-grants : goal.returns-clause-grants
returns-clause-grants c = λ l own held es p t its run ne had. granted-after l own held its es p t run ne had
