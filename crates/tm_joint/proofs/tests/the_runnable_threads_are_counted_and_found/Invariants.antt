use Rattle.std.proofs.Common.{◌≡◌}
use Rattle.tm_joint.proofs.tests.the_runnable_threads_are_counted_and_found.Given as goal

abbrev pub invariant-loop-entry : goal.invariant-loop-entry
invariant-loop-entry g l = l.joint.exercise ≡ l.initial.joint.exercise
