-- What an alone run writes.
use Rattle.std.specs.Prelude.{◌≡◌, ◌≢◌, ℕ, List, [], ◌++◌, length}
use Rattle.tm_base.specs.declared.ends.End.{End}
use Rattle.tm_base.specs.declared.events.Entry.{Entry}
use Rattle.tm_text.specs.Exercises.{ExerciseView}
use Rattle.tm_timeline.specs.Rows.{last_line_of}
use Rattle.tm_replay.specs.Ends.{end_of, named_of}
use Rattle.tm_collect.specs.Transcripts.{Transcript, AreRows}
use Rattle.tm_base.specs.declared.rules.Rules.{Rules}
use Rattle.tm_session.specs.Turns.{RunState, IsAloneRun}

-- The bytes are those of an alone run: the rows of its events and its last line.
pub record IsAloneText (x : ExerciseView) (rules : Rules) (es : List Entry) (end : End) (cut : List ℕ) (bytes : List ℕ) : Type 0 where
  pub turn : RunState
  pub run : IsAloneRun x rules es turn
  pub ended : end ≡ end_of rules.limit turn.joint
  pub named : cut ≡ named_of rules.limit turn.joint
  pub transcript : Transcript
  pub rows : AreRows x es transcript
  pub same : transcript.joint ≡ turn.joint
  pub text : bytes ≡ transcript.rows ++ last_line_of x end (length es) cut

-- The bytes are a prefix of the text of the exercise's alone run, and not all of it.
pub record BeginsAloneText (x : ExerciseView) (rules : Rules) (bytes : List ℕ) : Type 0 where
  pub events : List Entry
  pub end : End
  pub cut : List ℕ
  pub text : List ℕ
  pub whole : IsAloneText x rules events end cut text
  pub rest : List ℕ
  pub same : text ≡ bytes ++ rest
  pub proper : rest ≢ []
