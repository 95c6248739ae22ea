-- Each of the queue passes by once.
use Rattle.std.proofs.Common.{◌∙◌, ℕ, refl, sym, subst}
use Rattle.tm_queues.specs.WaitQueues.{IsQueue}
use Rattle.tm_locks.proofs.ReadersLemmas.{passed-start, passed-next, IsQueue-passed_by}
use Rattle.tm_locks.proofs.readers.take_out.Goals as goal

pub loop-turn-init : goal.loop-turn-init
loop-turn-init c = record { left = passed-start c.args.thread c.len-turn-end.result c.args.queue.now.queue c.len-turn-end.ensures.value; once = c.requires; threads = refl }

pub loop-turn-preserved : goal.loop-turn-preserved
loop-turn-preserved c = record {
  left = passed-next c.args.thread c.len-turn-end.result c.loop-turn._turn c.loop-turn.queue.queue c.pass_by.new.queue.queue c.loop-turn-test.true c.pass_by.ensures.value ∙ c.loop-turn.invariant.left;
  once =
      subst (λ (n : ℕ). IsQueue n c.pass_by.new.queue.queue) (sym c.pass_by.ensures.threads)
      (subst (IsQueue c.loop-turn.queue.threads) (sym c.pass_by.ensures.value) (IsQueue-passed_by c.loop-turn.queue.threads c.args.thread c.loop-turn.queue.queue c.loop-turn.invariant.once));
  threads = c.pass_by.ensures.threads ∙ c.loop-turn.invariant.threads;
}
