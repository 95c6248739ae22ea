use Rattle.std.proofs.Common.{arith, sym, ◌∙◌}
use Rattle.tm_queues.proofs.ValuedQueuesLemmas.{place-first, view-none, view-first}
use Rattle.tm_queues.proofs.valued_queues.ValuedQueue.head.Goals as goal

pub returns-in_err-thread : goal.returns-in_err-thread
returns-in_err-thread g c = rw c.from_residual.ensures (view-none _ _ _ c.self.view_is (sym c.head.ensures ∙ c.in_err-thread.was))

pub index-requires : goal.index-requires
index-requires g c = omega (arith, place-first _ _ _ c.self.invariant (sym c.head.ensures ∙ c.in_ok-thread.was))

pub returns : goal.returns
returns g c = view-first _ _ _ _ _ c.self.invariant c.self.view_is (sym c.head.ensures ∙ c.in_ok-thread.was) c.index.ensures
