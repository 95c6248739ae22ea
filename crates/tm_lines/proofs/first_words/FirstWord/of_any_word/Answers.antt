use Rattle.tm_lines.proofs.FirstWordsLemmas.{first_word_of-parts}
use Rattle.tm_lines.proofs.first_words.FirstWord.of_any_word.Goals as goal

pub returns-in-Some : goal.returns-in-Some
returns-in-Some c = rw (first_word_of-parts c.args.word.now, ← c.in-Some.ensures)

pub returns-in-Some-asked_opcode : goal.returns-in-Some-asked_opcode
returns-in-Some-asked_opcode c =
    rw (first_word_of-parts c.args.word.now, ← c.in-None.ensures, ← c.in-Some-asked_opcode.ensures)

pub returns-in-None-asked_opcode : goal.returns-in-None-asked_opcode
returns-in-None-asked_opcode c =
    rw (first_word_of-parts c.args.word.now, ← c.in-None.ensures, ← c.in-None-asked_opcode.ensures) c.own_word.ensures
