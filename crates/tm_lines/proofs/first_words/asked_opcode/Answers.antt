use Rattle.std.proofs.Common.{sym}
use Rattle.tm_base.specs.Opcodes.{word_of}
use Rattle.tm_lines.specs.FirstWords.{asked_opcodes}
use Rattle.tm_lines.proofs.FirstWordsLemmas.{find-no_word}
use Rattle.tm_lines.proofs.first_words.asked_opcode.Goals as goal

pub returns-in-None : goal.returns-in-None
returns-in-None c = sym (find-no_word word_of c.args.word.now c.in-None.ensures asked_opcodes)
