-- What the words after the program's name spell.
use Rattle.std.specs.Prelude.{◌≡◌, ℕ, ◌<◌, ◌≤◌, ◌^◌, true, List, [], ◌∷◌, map, codes, String, string_bytes}
use Rattle.std.specs.declared.alloc.Global.{Global}
use Rattle.tm_base.specs.declared.rules.TheConstants.{MOST_CALLS}
use Rattle.tm_makers.specs.Plans.{is_in_range}
use Rattle.tm_words.specs.declared.commands.Command.{Command}
use Rattle.tm_words.specs.declared.commands.Command.TheVariants.{Check, Large, Make, Run}
use Rattle.tm_words.specs.RunWords.{SpellsRules}
use Rattle.tm_words.specs.MakeWords.{SpellsPlan}
use Rattle.tm_words.specs.LargeWords.{SpellsNumber}

-- The word that a command begins with.
abbrev pub command_word : Command → List ℕ
command_word (Run rules) = codes "run"
command_word Check = codes "check"
command_word (Make plan) = codes "make"
command_word (Large n) = codes "large"

-- What the words after it spell.
abbrev pub SpellsArguments : List (List ℕ) → Command → Type 0
SpellsArguments words (Run rules) = SpellsRules words rules
SpellsArguments words Check = words ≡ []
SpellsArguments words (Make plan) = SpellsPlan words plan
SpellsArguments words (Large n) = SpellsNumber words n

-- The words are the command's word and its arguments.
pub record Spells (words : List (String Global)) (command : Command) : Type 0 where
  pub arguments : List (List ℕ)
  pub begun : map string_bytes words ≡ command_word command ∷ arguments
  pub spelled : SpellsArguments arguments command

-- The words spell no command.
abbrev pub SpellsNothing : List (String Global) → Type 0
SpellsNothing words = (command : Command) → ¬ Spells words command

-- Words spell one command at most.
abbrev pub WordsSpellOneCommand : Type 0
WordsSpellOneCommand = (words : List (String Global)) (a b : Command) → Spells words a → Spells words b → a ≡ b

-- What a command asks for is within its limits: a run's limit of calls, and the sizes of a plan.
abbrev pub IsWithinLimits : Command → Type 0
IsWithinLimits (Run rules) = rules.limit ≤ MOST_CALLS
IsWithinLimits Check = Unit {0}
IsWithinLimits (Make plan) = is_in_range plan ≡ true
IsWithinLimits (Large n) = n < 2 ^ 64

-- Words spell nothing beyond these limits.
abbrev pub CommandsAreWithinLimits : Type 0
CommandsAreWithinLimits = (words : List (String Global)) (command : Command) → Spells words command → IsWithinLimits command
