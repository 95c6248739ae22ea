use Rattle.tm_words.proofs.Limits.{within_limits}
use Rattle.tm_words.proofs.commands.commands_are_within_limits.Goals as goal

pub returns : goal.returns
returns c = within_limits
