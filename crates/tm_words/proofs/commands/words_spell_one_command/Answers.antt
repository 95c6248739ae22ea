use Rattle.tm_words.proofs.CommandLemmas.{one_command}
use Rattle.tm_words.proofs.commands.words_spell_one_command.Goals as goal

pub returns : goal.returns
returns c = one_command
