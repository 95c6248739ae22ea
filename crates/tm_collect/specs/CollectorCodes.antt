-- How a collector's value is told from others: by its parts.
use Rattle.std.specs.Prelude.{Bool, Option}
use Rattle.std.proofs.Common.{refl}
use Rattle.std.specs.Coded.{Coded, code_by, coded×, coded_bool, coded_option}
use Rattle.tm_text.specs.Exercises.{ExerciseView}
use Rattle.tm_text.specs.contracts.exercises.Exercise as exercise
use Rattle.tm_merge.specs.MergerViews.{MergerView}
use Rattle.tm_merge.specs.contracts.mergers.Merger as merger
use Rattle.tm_joint.specs.Joints.{JointView}
use Rattle.tm_joint.specs.JointCodes.{joint_code}
use Rattle.tm_collect.specs.declared.refusals.Refusal.{Refusal}
use Rattle.tm_collect.specs.contracts.refusals.Refusal as refusal
use Rattle.tm_collect.specs.Collectors.{CollectorView}

abbrev pub Parts : Type 0
Parts = ExerciseView × (MergerView × (JointView × (Option Refusal × (Bool × Bool))))

abbrev pub parts_of : CollectorView → Parts
parts_of v = (v.exercise, (v.merger, (v.joint, (v.refusal, (v.write_fault, v.short)))))

abbrev pub of_parts : Parts → CollectorView
of_parts p = record { exercise = p.0; merger = p.1.0; joint = p.1.1.0; refusal = p.1.1.1.0; write_fault = p.1.1.1.1.0; short = p.1.1.1.1.1 }

abbrev pub collector_code : Coded CollectorView
collector_code =
    code_by Parts
    (coded× exercise.the_row.coded (coded× merger.the_row.coded (coded× joint_code (coded× (coded_option refusal.the_row.coded) (coded× coded_bool coded_bool)))))
    parts_of of_parts (λ _. refl)
