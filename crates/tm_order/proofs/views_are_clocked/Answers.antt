-- The law, by what stands before an event in its thread's view.
use Rattle.tm_order.proofs.ViewsLemmas.{views-clocked}
use Rattle.tm_order.proofs.views_are_clocked.Goals as goal

pub returns : goal.returns
returns c = λ made seen saw views once keeps. views-clocked made seen saw views once keeps
