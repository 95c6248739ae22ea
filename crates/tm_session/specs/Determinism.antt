-- A well-formed exercise has exactly one alone run under given rules, and one text of it.
use Rattle.std.specs.Prelude.{◌≡◌, ℕ, List, ◌++◌}
use Rattle.tm_base.specs.declared.ends.End.{End}
use Rattle.tm_base.specs.declared.events.Entry.{Entry}
use Rattle.tm_base.specs.Runs.{Leads}
use Rattle.tm_text.specs.Exercises.{ExerciseView, IsWellFormed}
use Rattle.tm_base.specs.declared.rules.Rules.{Rules}
use Rattle.tm_session.specs.Turns.{RunState, BeginsAlone, Goes, IsAloneRun}
use Rattle.tm_session.specs.AloneTexts.{IsAloneText}

-- The exercise has a whole alone run under the rules.
pub record HasAloneRun (x : ExerciseView) (rules : Rules) : Type 0 where
  pub events : List Entry
  pub turn : RunState
  pub run : IsAloneRun x rules events turn

-- A well-formed exercise has a whole alone run under each schedule and limit.
abbrev pub AloneRunExists : Type 0
AloneRunExists = (x : ExerciseView) (rules : Rules) → IsWellFormed x → HasAloneRun x rules

-- A well-formed exercise has one whole alone run at most under a schedule and a limit: any two
-- have the same events, in the same order, and leave the same state.
abbrev pub OneAloneRun : Type 0
OneAloneRun = (x : ExerciseView) (rules : Rules) (es fs : List Entry) (p q : RunState)
    → IsWellFormed x → IsAloneRun x rules es p → IsAloneRun x rules fs q → (es ≡ fs) × (p ≡ q)

-- What was begun of a well-formed exercise's alone run is a prefix of the whole one, and goes on by the rest of
-- it, from the state to which it came to that of the whole run.
abbrev pub BegunRunsArePrefixes : Type 0
BegunRunsArePrefixes = (x : ExerciseView) (rules : Rules) (es fs : List Entry) (p q : RunState)
    → IsWellFormed x → BeginsAlone x rules es p → IsAloneRun x rules fs q
    → (rest : List Entry) × (fs ≡ es ++ rest) × Leads (Goes x rules) p rest q

-- The exercise has a text of its alone run under the rules.
pub record HasAloneText (x : ExerciseView) (rules : Rules) : Type 0 where
  pub events : List Entry
  pub end : End
  pub cut : List ℕ
  pub bytes : List ℕ
  pub text : IsAloneText x rules events end cut bytes

-- A well-formed exercise has a text of its alone run: each event has a row, and there is a last line.
abbrev pub AloneTextExists : Type 0
AloneTextExists = (x : ExerciseView) (rules : Rules) → IsWellFormed x → HasAloneText x rules

-- So it has one text of an alone run at most: any two have the same events, end in the same way, name the
-- same threads, and are the same bytes.
abbrev pub OneAloneText : Type 0
OneAloneText = (x : ExerciseView) (rules : Rules) (es fs : List Entry) (end last : End) (cut named bytes text : List ℕ)
    → IsWellFormed x → IsAloneText x rules es end cut bytes → IsAloneText x rules fs last named text
    → (es ≡ fs) × (end ≡ last) × (cut ≡ named) × (bytes ≡ text)
