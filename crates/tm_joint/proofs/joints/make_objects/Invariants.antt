use Rattle.std.proofs.Common.{◌≡◌, map, take, length}
use Rattle.tm_replay.specs.JointStates.{first_object_state}
use Rattle.tm_joint.proofs.joints.make_objects.Given as goal

abbrev pub invariant-loop-object : goal.invariant-loop-object
invariant-loop-object l = l.objects.items ≡ map (λ d. first_object_state (length l.exercise.programs) d.kind) (take l.object l.exercise.objects)
