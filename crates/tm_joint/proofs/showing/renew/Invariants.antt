use Rattle.tm_joint.proofs.Renewing.{Done}
use Rattle.tm_joint.proofs.showing.renew.Given as goal

abbrev pub invariant-loop-thread : goal.invariant-loop-thread
invariant-loop-thread l = Done l.seats l.object l.number l.initial.bars l.thread l.bars
