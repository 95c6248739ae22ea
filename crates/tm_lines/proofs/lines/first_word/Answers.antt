use Rattle.std.proofs.Common.{◌<◌, ◌≤◌, length, not, sym, ap, ◌∙◌, length-drop, arith}
use Rattle.std.proofs.lemmas.Bool.Decides.{nat_tests}
use Rattle.std.proofs.lemmas.List.Sums.{prefix_len-le-length}
use Rattle.std.proofs.lemmas.List.{drop_all, take_rest}
use Rattle.tm_lines.specs.Lines.{is_blank, words_of}
use Rattle.tm_lines.proofs.LinesLemmas.{words_of-first, words_of-drop}
use Rattle.tm_lines.proofs.lines.first_word.Goals as goal

pub slice_bounds-rest-count : goal.slice_bounds-rest-count
slice_bounds-rest-count c = omega (arith, prefix_len-le-length is_blank c.args.line.now)

pub slice_bounds-rest-start : goal.slice_bounds-rest-start
slice_bounds-rest-start c = omega (arith, prefix_len-le-length is_blank c.args.line.now)

pub split_at-requires : goal.split_at-requires
split_at-requires c = rw c.word_len.ensures (prefix_len-le-length (λ b. not (is_blank b)) _)

pub returns-then-is_empty : goal.returns-then-is_empty
returns-then-is_empty c =
    let line = c.args.line.now in
    let n = c.blank_len.result in
    let past : length line ≤ n = grind (arith, nat_tests, take_rest line n, length-drop n line) in
    words_of-drop line n (sym c.blank_len.ensures) ∙ ap words_of (drop_all n line past)

pub returns : goal.returns
returns c =
    let line = c.args.line.now in
    let n = c.blank_len.result in
    let within : n < length line = grind (arith, nat_tests, take_rest line n, length-drop n line) in
    rw (c.split_at.ensures.front, c.split_at.ensures.back, take_rest)
    (words_of-first line n c.word_len.result (sym c.blank_len.ensures) within (sym (rw take_rest at c.word_len.ensures)))
