use Rattle.tm_text.proofs.SpelledTexts.{spelled_both_ways}
use Rattle.tm_text.proofs.laws.exercises_are_spelled.Goals as goal

pub returns : goal.returns
returns c = spelled_both_ways
