use Rattle.std.proofs.Common.{length, ap, arith}
use Rattle.tm_lines.proofs.WordsLemmas.{words_of-length}
use Rattle.tm_lines.proofs.words.Words.of_line.Goals as goal

pub overflow_add-result : goal.overflow_add-result
overflow_add-result c =
    omega (
      arith,
      words_of-length c.args.line.now,
      ap length c.in-Some.ensures,
      ap length c.in-Some-first_word.ensures,
      ap length c.in-Some-first_word-2.ensures,
      ap length c.in-Some-first_word-3.ensures,
      c.word_count.ensures,
    )
