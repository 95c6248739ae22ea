use Rattle.std.proofs.Common.{◌≡◌, take}
use Rattle.tm_replay.specs.JointSteps.{IsJointRun}
use Rattle.tm_trace.proofs.judging.first_illegal.Given as goal

-- The events so far are a joint run of the exercise, and were applied.
abbrev pub invariant-loop-entry : goal.invariant-loop-entry
invariant-loop-entry l = record {
  exercise : l.joint.exercise ≡ l.exercise;
  run : IsJointRun l.exercise (take l.entry-index l.events) l.joint.state;
  applied : l.joint.applied ≡ l.entry-index;
}
