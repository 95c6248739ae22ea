use Rattle.std.proofs.Common.{◌≡◌, ◌<◌, ◌∷◌, [], true, length, sym, ◌∙◌, arith}
use Rattle.std.proofs.lemmas.Bool.Decides.{nat_tests}
use Rattle.std.proofs.lemmas.List.Sums.{prefix_len-le-length}
use Rattle.tm_lines.specs.PlainLines.{ends_word, is_plain}
use Rattle.tm_lines.proofs.PlainLinesLemmas.{cuts-then, word-cut}
use Rattle.tm_lines.proofs.plain_lines.plain_word.Goals as goal

pub split_at-requires : goal.split_at-requires
split_at-requires c = rw c.plain_len.ensures (prefix_len-le-length is_plain c.args.bytes.now)

pub returns : goal.returns
returns c =
    let bytes = c.args.bytes.now in
    let word = c.split_at.result.0.now in
    let rest = c.split_at.result.1.now in
    let some : 0 < length word = grind (arith, nat_tests) in
    let ends : ends_word rest ≡ true = sym c.ends_word.ensures ∙ c.if-not-ends_word.false in
    cuts-then bytes (word ∷ []) rest [] c.after_blanks.result.now
    (word-cut bytes word rest c.plain_len.result (sym c.plain_len.ensures) c.split_at.ensures.front c.split_at.ensures.back c.split_at.ensures.front_len some ends)
    c.after_blanks.ensures
