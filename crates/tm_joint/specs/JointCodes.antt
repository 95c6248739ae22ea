-- How a replayer's value is told from others: by its parts.
use Rattle.std.specs.Prelude.{ℕ, List}
use Rattle.std.proofs.Common.{refl}
use Rattle.std.specs.Coded.{Coded, code_by, coded×, coded_list, coded_ℕ}
use Rattle.tm_text.specs.Exercises.{ExerciseView}
use Rattle.tm_text.specs.contracts.exercises.Exercise as exercise
use Rattle.tm_replay.specs.JointStates.{ThreadState, ObjectState}
use Rattle.tm_joint.specs.contracts.objects.Object as object
use Rattle.tm_joint.specs.Joints.{JointView}
use Rattle.tm_joint.specs.ThreadCodes.{thread_code}

abbrev pub parts_of : JointView → ExerciseView × (List ObjectState × (List ThreadState × (ℕ × ℕ)))
parts_of v = (v.exercise, (v.state.objects, (v.state.threads, (v.applied, v.last_stamp))))

abbrev pub of_parts : ExerciseView × (List ObjectState × (List ThreadState × (ℕ × ℕ))) → JointView
of_parts p = record { exercise = p.0; state = record { objects = p.1.0; threads = p.1.1.0 }; applied = p.1.1.1.0; last_stamp = p.1.1.1.1 }

abbrev pub joint_code : Coded JointView
joint_code =
    code_by (ExerciseView × (List ObjectState × (List ThreadState × (ℕ × ℕ))))
    (coded× exercise.the_row.coded (coded× (coded_list object.the_row.coded) (coded× (coded_list thread_code) (coded× coded_ℕ coded_ℕ))))
    parts_of of_parts (λ _. refl)
