-- What is written of a legal run: a row for each of its events, and a line with their number.
use Rattle.std.specs.Prelude.{◌≡◌, ℕ, List, ◌++◌, codes, length}
use Rattle.std.specs.Fmt.{decimal}
use Rattle.tm_base.specs.declared.events.Entry.{Entry}
use Rattle.tm_text.specs.Exercises.{ExerciseView}
use Rattle.tm_timeline.specs.Rows.{line_end}
use Rattle.tm_replay.specs.JointStates.{JointState}
use Rattle.tm_replay.specs.JointSteps.{IsJointRun}
use Rattle.tm_collect.specs.Transcripts.{Transcript, AreRows}

-- The events are a legal run of all objects and threads of the exercise together.
abbrev pub IsLegal : ExerciseView → List Entry → Type 0
IsLegal x es = (j : JointState) × IsJointRun x es j

-- The last line of a legal run: how many events it has.
abbrev pub legal_line : ℕ → List ℕ
legal_line n = codes "legal " ++ decimal n ++ line_end

-- The bytes are the text of the legal run: the rows of its events, and its last line.
pub record IsLegalText (x : ExerciseView) (es : List Entry) (bytes : List ℕ) : Type 0 where
  pub transcript : Transcript
  pub rows : AreRows x es transcript
  pub text : bytes ≡ transcript.rows ++ legal_line (length es)
