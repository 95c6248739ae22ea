-- The command that runs the large exercise of a number and writes a summary.
use Rattle.std.specs.Prelude.{◌≡◌, ℕ, List}
use Rattle.tm_base.specs.declared.rules.Rules.{Rules}
use Rattle.tm_base.specs.declared.rules.TheConstants.{USUAL_CALLS}
use Rattle.tm_makers.specs.LargeExercises.{lines_of_large}
use Rattle.tm_text.specs.Exercises.{ExerciseView, IsWellFormed}
use Rattle.tm_text.specs.SpelledLines.{spelled}
use Rattle.tm_timeline.specs.Summaries.{summary_of}
use Rattle.tm_session.specs.declared.runs.Finished.{Finished}
use Rattle.tm_mentor.specs.declared.answers.Answer.{Answer}
use Rattle.tm_mentor.specs.declared.answers.Answer.TheVariants as answer
use Rattle.tm_mentor.specs.Answers.{HasRun, Sends}
use Rattle.tm_mentor.specs.Outside.{Output}

-- The rules of its run: its number is the schedule, and a thread may make the usual number of calls.
abbrev pub rules_of_large : ℕ → Rules
rules_of_large number = record { schedule = number; limit = USUAL_CALLS }

-- The exercise of the number ran to its end under these rules, and the summary of its run was sent. The text of the
-- run was not.
pub record RunsLarge (number : ℕ) (old new : Output) (f : Finished) : Type 0 where
  pub exercise : ExerciseView
  pub formed : IsWellFormed exercise
  pub made : spelled exercise ≡ lines_of_large number
  pub bytes : List ℕ
  pub run : HasRun exercise (rules_of_large number) f bytes
  pub whole : Sends f.write_fault old new (summary_of exercise f.shown f.end f.cut)

-- What `large` answers for the number: its exercise ran, or memory ran out, and then nothing was written.
abbrev pub LargeAnswers : ℕ → Output → Output → Answer → Type 0
LargeAnswers number old new (answer.Ran f) = RunsLarge number old new f
LargeAnswers number old new answer.NoMemory = new ≡ old
LargeAnswers number old new a = ⊥
