use Rattle.std.proofs.Common.{sym, arith}
use Rattle.std.proofs.lemmas.List.Sums.{prefix_len-le-length}
use Rattle.std.proofs.lemmas.List.{take_rest}
use Rattle.tm_lines.specs.Lines.{is_blank}
use Rattle.tm_lines.proofs.PlainLinesLemmas.{after_blanks-cuts}
use Rattle.tm_lines.proofs.plain_lines.after_blanks.Goals as goal

pub slice_bounds-result-count : goal.slice_bounds-result-count
slice_bounds-result-count c = omega (arith, prefix_len-le-length is_blank c.args.bytes.now)

pub slice_bounds-result-start : goal.slice_bounds-result-start
slice_bounds-result-start c = omega (arith, prefix_len-le-length is_blank c.args.bytes.now)

pub returns : goal.returns
returns c = rw take_rest (after_blanks-cuts c.args.bytes.now c.blank_len.result (sym c.blank_len.ensures))
