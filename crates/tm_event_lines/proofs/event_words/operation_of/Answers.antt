use Rattle.tm_event_lines.proofs.WordLemmas.{operation_found}
use Rattle.tm_event_lines.proofs.event_words.operation_of.Goals as goal

pub returns : goal.returns
returns c = operation_found c.of_word.result c.args.word.now c.of_word.ensures
