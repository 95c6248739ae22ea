use Rattle.std.proofs.Common.{◌≡◌}
use Rattle.tm_joint.proofs.tests.a_waiting_thread_is_granted_and_resumes.Given as goal

abbrev pub invariant-loop-entry : goal.invariant-loop-entry
invariant-loop-entry g l = l.joint.exercise ≡ l.initial.joint.exercise
