use Rattle.std.proofs.Common.{sym, ap, ◌∙◌}
use Rattle.tm_lines.specs.FirstWords.{first_word_of}
use Rattle.tm_lines.specs.NamedLines.{declarator_of, word_at}
use Rattle.tm_lines.proofs.FirstWordsLemmas.{declarator_of-found}
use Rattle.tm_lines.proofs.names.declarator.Goals as goal

pub returns-in-Some : goal.returns-in-Some
returns-in-Some c =
    c.of_word.ensures ∙ declarator_of-found c.in-Some.word.now ∙ ap (λ ws. declarator_of (first_word_of (word_at 0 ws))) (sym c.in-Some.ensures)
