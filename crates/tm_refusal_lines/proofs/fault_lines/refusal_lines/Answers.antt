use Rattle.std.proofs.Common.{subst, sym}
use Rattle.tm_text.specs.Exercises.{ExerciseView, IsWellFormed}
use Rattle.tm_refusal_lines.specs.KnownNames.{IsFaultOf}
use Rattle.tm_refusal_lines.proofs.FaultNames.{fault-names}
use Rattle.tm_refusal_lines.proofs.fault_lines.refusal_lines.Goals as goal

pub append_fault-requires : goal.append_fault-requires
append_fault-requires c = record {
  known = subst (λ (x : ExerciseView). IsFaultOf x c.args.fault.now) (sym c.exercise-exercise.ensures)
      (fault-names c.args.trace.now.exercise c.args.trace.now.entries c.args.fault.now (subst IsWellFormed c.exercise-exercise.ensures c.threads-threads.ensures.well_formed) c.entries-entries.ensures.traceable c.requires.fault);
}
