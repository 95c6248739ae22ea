-- A fault names threads and objects of the exercise.
use Rattle.std.proofs.Common.{List}
use Rattle.tm_base.specs.declared.events.Entry.{Entry}
use Rattle.tm_text.specs.Exercises.{ExerciseView, IsWellFormed}
use Rattle.tm_trace.specs.declared.faults.JudgeFault.{JudgeFault}
use Rattle.tm_trace.specs.declared.faults.JudgeFault.TheVariants as fault
use Rattle.tm_trace.specs.Judging.{IsFault}
use Rattle.tm_trace.specs.Traces.{AreTraceable}
use Rattle.tm_refusal_lines.specs.KnownNames.{IsFaultOf}
use Rattle.tm_refusal_lines.proofs.RefusedNames.{refused-names}
use Rattle.tm_refusal_lines.proofs.HeldNames.{held-names}
use Rattle.tm_refusal_lines.proofs.IllegalNames.{illegal-names}

pub fault-names : (x : ExerciseView) (es : List Entry) (f : JudgeFault) → IsWellFormed x → AreTraceable x es → IsFault x es f → IsFaultOf x f
fault-names x es (fault.Refused r) formed traceable h = refused-names x es r traceable h
fault-names x es (fault.Held hold) formed traceable h = held-names x es hold traceable h
fault-names x es (fault.Illegal i) formed traceable h = illegal-names x es i formed traceable h
fault-names x es fault.NoMemory formed traceable h = tt
