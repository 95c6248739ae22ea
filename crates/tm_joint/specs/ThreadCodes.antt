-- How a thread's state is told from others: by its parts.
use Rattle.std.specs.Prelude.{ℕ}
use Rattle.std.proofs.Common.{refl}
use Rattle.std.specs.Coded.{Coded, code_by, coded×, coded_ℕ}
use Rattle.tm_programs.specs.Codes.{rest_code}
use Rattle.tm_programs.specs.Programs.{Rest}
use Rattle.tm_replay.specs.declared.phases.Phase.{Phase}
use Rattle.tm_replay.specs.contracts.phases.Phase as phase
use Rattle.tm_replay.specs.JointStates.{ThreadState}

abbrev pub parts_of : ThreadState → Phase × (ℕ × (ℕ × (ℕ × Rest)))
parts_of s = (s.phase, (s.next, (s.stamp, (s.made, s.rest))))

abbrev pub of_parts : Phase × (ℕ × (ℕ × (ℕ × Rest))) → ThreadState
of_parts p = record { phase = p.0; next = p.1.0; stamp = p.1.1.0; made = p.1.1.1.0; rest = p.1.1.1.1 }

abbrev pub thread_code : Coded ThreadState
thread_code =
    code_by (Phase × (ℕ × (ℕ × (ℕ × Rest))))
    (coded× phase.the_row.coded (coded× coded_ℕ (coded× coded_ℕ (coded× coded_ℕ rest_code))))
    parts_of of_parts (λ _. refl)
