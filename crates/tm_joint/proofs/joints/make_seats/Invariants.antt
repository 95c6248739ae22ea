use Rattle.std.proofs.Common.{◌≡◌, ◌∷◌, map, take}
use Rattle.tm_replay.specs.declared.phases.Phase.TheVariants as phase
use Rattle.tm_replay.specs.JointStates.{first_thread_state, unbegun}
use Rattle.tm_programs.specs.Programs.{Over}
use Rattle.tm_joint.proofs.joints.make_seats.Given as goal

abbrev pub invariant-loop-thread : goal.invariant-loop-thread
invariant-loop-thread l = l.seats.items ≡ first_thread_state phase.Main Over ∷ map unbegun (take l.thread l.exercise.programs)
