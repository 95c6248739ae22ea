use Rattle.tm_lines.proofs.SpellingsLemmas.{spellings_back, spellings_distinct}
use Rattle.tm_lines.proofs.laws.spellings_read_back.Goals as goal

pub returns-clause-back : goal.returns-clause-back
returns-clause-back c = spellings_back

pub returns-clause-distinct : goal.returns-clause-distinct
returns-clause-distinct c = spellings_distinct
