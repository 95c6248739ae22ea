-- The threads and objects that a fault names are those of the exercise, so that they have names.
use Rattle.std.specs.Prelude.{◌≤◌, ◌<◌, length}
use Rattle.tm_text.specs.Exercises.{ExerciseView}
use Rattle.tm_timeline.specs.Rows.{NamesThread}
use Rattle.tm_timeline.specs.TraceableEvents.{IsTraceable}
use Rattle.tm_merge.specs.declared.holds.Hold.{Hold}
use Rattle.tm_merge.specs.declared.holds.Missing.{Missing}
use Rattle.tm_merge.specs.declared.holds.Missing.TheVariants as missing
use Rattle.tm_merge.specs.declared.refusals.Refused.{Refused}
use Rattle.tm_merge.specs.declared.refusals.Refused.TheVariants as refused
use Rattle.tm_joint.specs.declared.asked.Asked.{Asked}
use Rattle.tm_joint.specs.declared.asked.Asked.TheVariants as asked
use Rattle.tm_joint.specs.declared.refusals.Cause.{Cause}
use Rattle.tm_joint.specs.declared.refusals.Cause.TheVariants as cause
use Rattle.tm_joint.specs.declared.refusals.Illegal.{Illegal}
use Rattle.tm_trace.specs.declared.faults.JudgeFault.{JudgeFault}
use Rattle.tm_trace.specs.declared.faults.JudgeFault.TheVariants as fault

-- The place is one in a thread, or at an object, of the exercise.
abbrev pub IsPlaceOf : ExerciseView → Missing → Type 0
IsPlaceOf x (missing.Thread thread place) = thread ≤ length x.programs
IsPlaceOf x (missing.Object object at) = object < length x.objects

-- A call that is asked is one on an object of the exercise.
abbrev pub IsAskedOf : ExerciseView → Asked → Type 0
IsAskedOf x (asked.Call object op) = object < length x.objects
IsAskedOf x a = Unit {0}

abbrev pub IsCauseOf : ExerciseView → Cause → Type 0
IsCauseOf x (cause.Place next) = IsPlaceOf x next
IsCauseOf x (cause.Waiting object) = object < length x.objects
IsCauseOf x (cause.NotAsked next) = IsAskedOf x next
IsCauseOf x (cause.Reply reply) = NamesThread x reply
IsCauseOf x c = Unit {0}

-- The events are ones that lines of a trace over the exercise can say; so none is out of range, and want of memory is
-- a fault of its own.
abbrev pub IsRefusedOf : ExerciseView → Refused → Type 0
IsRefusedOf x (refused.TwicePlace kept new) = IsTraceable x kept × IsTraceable x new
IsRefusedOf x (refused.StampOrder kept new) = IsTraceable x kept × IsTraceable x new
IsRefusedOf x (refused.OutOfRange field) = ⊥
IsRefusedOf x refused.NoMemory = ⊥

abbrev pub IsHoldOf : ExerciseView → Hold → Type 0
IsHoldOf x hold = IsTraceable x hold.entry × IsPlaceOf x hold.missing

abbrev pub IsIllegalOf : ExerciseView → Illegal → Type 0
IsIllegalOf x illegal = IsTraceable x illegal.entry × IsCauseOf x illegal.cause

abbrev pub IsFaultOf : ExerciseView → JudgeFault → Type 0
IsFaultOf x (fault.Refused r) = IsRefusedOf x r
IsFaultOf x (fault.Held hold) = IsHoldOf x hold
IsFaultOf x (fault.Illegal i) = IsIllegalOf x i
IsFaultOf x fault.NoMemory = Unit {0}
