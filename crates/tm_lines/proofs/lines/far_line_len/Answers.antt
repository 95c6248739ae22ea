use Rattle.std.proofs.Common.{◌∙◌}
use Rattle.tm_lines.proofs.LinesLemmas.{line-end}
use Rattle.tm_lines.proofs.lines.far_line_len.Goals as goal

pub returns : goal.returns
returns c = c.unwrap_or.ensures ∙ line-end c.args.bytes.now c.memchr.result c.memchr.ensures
