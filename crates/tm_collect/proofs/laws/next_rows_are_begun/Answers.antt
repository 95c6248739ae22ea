use Rattle.tm_collect.proofs.NextEventsLemmas.{next-begun}
use Rattle.tm_collect.proofs.laws.next_rows_are_begun.Goals as goal

pub returns : goal.returns
returns c v m w e k o p all step hands lacks = next-begun v m w e k o p all step hands lacks
