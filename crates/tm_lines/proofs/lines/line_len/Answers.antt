use Rattle.std.proofs.Common.{ℕ, Bool, ◌+◌, not, arith}
use Rattle.std.proofs.lemmas.List.Sums.{prefix_len-le-length}
use Rattle.tm_lines.specs.Lines.{is_lf}
use Rattle.tm_lines.proofs.LinesLemmas.{end-behind, end-in_front}
use Rattle.tm_lines.proofs.lines.line_len.Goals as goal

pub overflow_add-result : goal.overflow_add-result
overflow_add-result c =
    let p : ℕ → Bool = λ b. not (is_lf b) in
    omega (arith, prefix_len-le-length p c.split_at.result.0.now, prefix_len-le-length p c.split_at.result.1.now, c.near_line_len-near.ensures, c.far_line_len.ensures, c.split_at.ensures.back_len, c.split_at.ensures.front_len)

pub returns-then-near-front : goal.returns-then-near-front
returns-then-near-front c =
    end-in_front c.args.bytes.now c.split_at.result.0.now c.split_at.result.1.now c.near_line_len-near.result c.split_at.ensures.by_index.0 c.near_line_len-near.ensures c.if-near-front.true

pub returns-else-near-front : goal.returns-else-near-front
returns-else-near-front c =
    end-behind c.args.bytes.now c.split_at.result.0.now c.split_at.result.1.now c.near_line_len-near.result c.far_line_len.result c.split_at.ensures.by_index.0 c.near_line_len-near.ensures
    (omega (arith, c.if-near-front.false)) c.far_line_len.ensures
