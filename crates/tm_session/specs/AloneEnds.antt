-- How an alone run ends, as a whole statement.
use Rattle.std.specs.Prelude.{List}
use Rattle.tm_base.specs.declared.events.Entry.{Entry}
use Rattle.tm_text.specs.Exercises.{ExerciseView, IsWellFormed}
use Rattle.tm_replay.specs.Ends.{IsEndedRun}
use Rattle.tm_base.specs.declared.rules.Rules.{Rules}
use Rattle.tm_session.specs.Turns.{RunState, IsAloneRun}

-- Every whole alone run of a well-formed exercise is an ended run for the limit of its rules.
abbrev pub AloneRunsEnd : Type 0
AloneRunsEnd = (x : ExerciseView) (rules : Rules) (es : List Entry) (p : RunState)
    → IsWellFormed x → IsAloneRun x rules es p → IsEndedRun x rules.limit es
