use Rattle.tm_collect.proofs.NextEventsLemmas.{next-shown}
use Rattle.tm_collect.proofs.laws.next_events_are_shown.Goals as goal

pub returns : goal.returns
returns c v m w e k o p n all collecting step hands answers = next-shown v m w e k o p n all collecting step hands answers
