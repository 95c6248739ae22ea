-- The command that runs an exercise: what it reads, and what it answers.
use Rattle.std.specs.Prelude.{◌≡◌, ℕ, List, Some, ◌⊎◌}
use Rattle.tm_base.specs.declared.rules.Rules.{Rules}
use Rattle.tm_outside.specs.Appending.{AppendsPrefix}
use Rattle.tm_lines.specs.declared.limits.TheConstants.{MOST_BYTES}
use Rattle.tm_lines.specs.TextFaults.{first_fault}
use Rattle.tm_text.specs.Exercises.{ExerciseView, IsWellFormed}
use Rattle.tm_text.specs.Texts.{IsExercise}
use Rattle.tm_session.specs.AloneTexts.{BeginsAloneText}
use Rattle.tm_session.specs.declared.runs.Finished.{Finished}
use Rattle.tm_mentor.specs.declared.answers.Answer.{Answer}
use Rattle.tm_mentor.specs.declared.answers.Answer.TheVariants as answer
use Rattle.tm_mentor.specs.declared.refusals.Refusal.{Refusal}
use Rattle.tm_mentor.specs.declared.refusals.Refusal.TheVariants.{Text}
use Rattle.tm_mentor.specs.Answers.{HasRun, Sends}
use Rattle.tm_mentor.specs.Outside.{Exchange, Input}
use Rattle.tm_mentor.specs.Sources.{HasFaultyText, HasText, RefusesText}

-- The bytes are the text of no exercise.
abbrev pub IsNoExercise : List ℕ → Type 0
IsNoExercise bytes = (x : ExerciseView) → ¬ IsExercise bytes x

-- A text of the exercise, which is well formed, was read.
pub record HasExercise (old new : Input) (x : ExerciseView) : Type 0 where
  pub read : HasText (λ bytes. IsExercise bytes x) old new
  pub formed : IsWellFormed x

-- A text of no exercise was read, which has this first fault.
abbrev pub HasNoExercise : Refusal → Input → Input → Type 0
HasNoExercise (Text fault) old new = HasFaultyText MOST_BYTES (λ bytes. first_fault bytes ≡ Some fault) old new
HasNoExercise refusal old new = ⊥

-- The exercise that was read ran to its end under the rules, and the text of its alone run was sent.
pub record RunsExercise (rules : Rules) (o : Exchange) (f : Finished) : Type 0 where
  pub exercise : ExerciseView
  pub found : HasExercise o.source_before o.source_after exercise
  pub bytes : List ℕ
  pub run : HasRun exercise rules f bytes
  pub whole : Sends f.write_fault o.sink_before o.sink_after bytes

-- Memory ran out in the run of the exercise that was read. A prefix of the text of its alone run under these rules
-- was written, and not all of it.
pub record RunsShort (rules : Rules) (o : Exchange) : Type 0 where
  pub exercise : ExerciseView
  pub found : HasExercise o.source_before o.source_after exercise
  pub bytes : List ℕ
  pub begins : BeginsAloneText exercise rules bytes
  pub written : AppendsPrefix o.sink_before.written o.sink_after.written bytes

-- The exercise that was read ran, or memory ran out in its run.
abbrev pub Runs : Rules → Exchange → Answer → Type 0
Runs rules o (answer.Ran f) = RunsExercise rules o f
Runs rules o answer.NoMemory = RunsShort rules o
Runs rules o a = ⊥

-- What `run` answers under the rules.
abbrev pub RunAnswers : Rules → Exchange → Answer → Type 0
RunAnswers rules o a = RefusesText MOST_BYTES HasNoExercise o a ⊎ Runs rules o a
