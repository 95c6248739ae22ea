use Rattle.std.proofs.Common.{◌≡◌, drop, [], not, sym, add-one, arith}
use Rattle.std.proofs.lemmas.List.Sums.{prefix_len-le-length}
use Rattle.std.proofs.lemmas.List.{drop_all, take_rest}
use Rattle.tm_lines.specs.Lines.{is_lf}
use Rattle.tm_lines.proofs.LinesLemmas.{lines_of-at, lines_of-last}
use Rattle.tm_lines.proofs.lines.first_line.Goals as goal

pub slice_bounds-result-count-else-end-bytes : goal.slice_bounds-result-count-else-end-bytes
slice_bounds-result-count-else-end-bytes c =
    omega (arith, prefix_len-le-length (λ b. not (is_lf b)) c.args.bytes.now)

pub slice_bounds-result-start-else-end-bytes : goal.slice_bounds-result-start-else-end-bytes
slice_bounds-result-start-else-end-bytes c =
    omega (arith, prefix_len-le-length (λ b. not (is_lf b)) c.args.bytes.now)

pub returns-then-end-bytes-clause-lines : goal.returns-then-end-bytes-clause-lines
returns-then-end-bytes-clause-lines c =
    rw (take_rest, add-one) (lines_of-at c.args.bytes.now c.line_len-end.result (sym c.line_len-end.ensures) c.if-end-bytes.true)

pub returns-else-end-bytes-clause-lines : goal.returns-else-end-bytes-clause-lines
returns-else-end-bytes-clause-lines c =
    let bytes = c.args.bytes.now in
    let within = prefix_len-le-length (λ b. not (is_lf b)) bytes in
    let none : drop c.line_len-end.result bytes ≡ [] = drop_all c.line_len-end.result bytes c.if-end-bytes.false in
    rw (take_rest, none) (lines_of-last bytes c.requires (omega (arith, within)))
