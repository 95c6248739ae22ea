-- The command that writes a ready-made exercise.
use Rattle.std.specs.Prelude.{◌≡◌, ℕ, List}
use Rattle.tm_makers.specs.declared.plans.Plan.{Plan}
use Rattle.tm_makers.specs.Plans.{lines_of_plan}
use Rattle.tm_text.specs.CanonicalTexts.{lines_text}
use Rattle.tm_mentor.specs.declared.answers.Answer.{Answer}
use Rattle.tm_mentor.specs.declared.answers.Answer.TheVariants as answer
use Rattle.tm_mentor.specs.Answers.{Sends}
use Rattle.tm_mentor.specs.Outside.{Output}

-- The canonical text of the plan's exercise.
abbrev pub text_of_plan : Plan → List ℕ
text_of_plan plan = lines_text (lines_of_plan plan)

-- What `make` answers for the plan: the text of its exercise was sent, or memory ran out, and then nothing was
-- written.
abbrev pub MakeAnswers : Plan → Output → Output → Answer → Type 0
MakeAnswers plan old new (answer.Wrote failed) = Sends failed old new (text_of_plan plan)
MakeAnswers plan old new answer.NoMemory = new ≡ old
MakeAnswers plan old new a = ⊥
