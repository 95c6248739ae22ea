use Rattle.std.proofs.Common.{arith}
use Rattle.tm_lines.proofs.WordsLemmas.{words_of-length}
use Rattle.tm_lines.proofs.words.word_count.Goals as goal

pub overflow_add-count : goal.overflow_add-count
overflow_add-count c = omega (arith, words_of-length c.args.line.now)
