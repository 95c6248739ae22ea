-- What the program answers, by the command that its words spell.
use Rattle.std.specs.Prelude.{◌≡◌, List, ◌⊎◌, String}
use Rattle.std.specs.declared.alloc.Global.{Global}
use Rattle.tm_words.specs.declared.commands.Command.{Command}
use Rattle.tm_words.specs.declared.commands.Command.TheVariants as command
use Rattle.tm_words.specs.Commands.{Spells, SpellsNothing}
use Rattle.tm_mentor.specs.declared.answers.Answer.{Answer}
use Rattle.tm_mentor.specs.declared.answers.Answer.TheVariants as answer
use Rattle.tm_mentor.specs.declared.refusals.Refusal.TheVariants.{Usage}
use Rattle.tm_mentor.specs.Answers.{Sends}
use Rattle.tm_mentor.specs.Outside.{Exchange, ReadsNothing}
use Rattle.tm_mentor.specs.Refusals.{line_of}
use Rattle.tm_mentor.specs.CheckCommand.{CheckAnswers}
use Rattle.tm_mentor.specs.LargeCommand.{LargeAnswers}
use Rattle.tm_mentor.specs.MakeCommand.{MakeAnswers}
use Rattle.tm_mentor.specs.RunCommand.{RunAnswers}

-- What each command answers. Only `run` and `check` read.
abbrev pub CommandAnswers : Command → Exchange → Answer → Type 0
CommandAnswers (command.Run rules) o a = RunAnswers rules o a
CommandAnswers command.Check o a = CheckAnswers o a
CommandAnswers (command.Make plan) o a = ReadsNothing o × MakeAnswers plan o.sink_before o.sink_after a
CommandAnswers (command.Large number) o a = ReadsNothing o × LargeAnswers number o.sink_before o.sink_after a

-- What is answered where there is no command: nothing is read, and a line says so.
abbrev pub UsageAnswers : Exchange → Answer → Type 0
UsageAnswers o (answer.Refused Usage failed) = ReadsNothing o × Sends failed o.sink_before o.sink_after (line_of Usage)
UsageAnswers o a = ⊥

-- The words spell this command, which answers so.
pub record IsAnswered (words : List (String Global)) (o : Exchange) (a : Answer) : Type 0 where
  pub command : Command
  pub spelled : Spells words command
  pub answers : CommandAnswers command o a

-- The words spell no command.
pub record IsUnspelled (words : List (String Global)) (o : Exchange) (a : Answer) : Type 0 where
  pub unspelled : SpellsNothing words
  pub answers : UsageAnswers o a

-- Memory ran out before it was known what the words spell, or before there were words: nothing was read or written.
abbrev pub CannotSpell : Exchange → Answer → Type 0
CannotSpell o answer.NoMemory = ReadsNothing o × (o.sink_after ≡ o.sink_before)
CannotSpell o a = ⊥

-- What these words are answered.
abbrev pub Answers : List (String Global) → Exchange → Answer → Type 0
Answers words o a = IsUnspelled words o a ⊎ IsAnswered words o a ⊎ CannotSpell o a
