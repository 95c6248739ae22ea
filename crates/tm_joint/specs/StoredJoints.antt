-- How a replayer is stored.
use Rattle.std.specs.Prelude.{◌≡◌}
use Rattle.tm_replay.specs.Bars.{bars_of}
use Rattle.tm_replay.specs.JointStates.{JointState}
use Rattle.tm_joint.specs.declared.joints.Joint.TheInside.{Inside}
use Rattle.tm_joint.specs.Joints.{IsKept, JointView}

abbrev pub state_of : Inside → JointState
state_of j = record { objects = j.objects.items; threads = j.seats.items }

abbrev pub joint_view : Inside → JointView
joint_view j = record { exercise = j.exercise.now; state = state_of j; applied = j.applied; last_stamp = j.last_stamp }

-- It keeps what every replayer does, and beside it stand the bars of the joint state.
pub record KeepsJoint (j : Inside) : Type 0 where
  pub kept : IsKept (joint_view j)
  pub bars : j.bars ≡ bars_of (state_of j)
