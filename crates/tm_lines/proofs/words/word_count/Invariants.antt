use Rattle.std.proofs.Common.{◌≡◌, ◌+◌, length}
use Rattle.tm_lines.specs.Lines.{words_of}
use Rattle.tm_lines.proofs.words.word_count.Given as goal

abbrev pub invariant-loop-next : goal.invariant-loop-next
invariant-loop-next l = l.count + length (words_of l.rest) ≡ length (words_of l.line)

abbrev pub decreases-loop-next : goal.decreases-loop-next
decreases-loop-next l = length (words_of l.rest)
