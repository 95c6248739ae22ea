use Rattle.std.proofs.Common.{rules, arith}
use Rattle.std.proofs.lemmas.Grind.{common_steps}
use Rattle.tm_queues.proofs.WaitQueueLemmas.{marks-push, queue_steps}
use Rattle.tm_queues.proofs.wait_queues.WaitQueue.push.Goals as goal

pub invariant_of-self : goal.invariant_of-self
invariant_of-self c = record {
  few = search rules;
  queue = grind (arith, queue_steps);
  room = grind (arith, common_steps);
  places = grind (arith, common_steps);
  marks = search (rules, arith, marks-push);
}
