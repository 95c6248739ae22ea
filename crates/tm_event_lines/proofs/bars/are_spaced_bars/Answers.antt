use Rattle.std.proofs.Common.{sym, ◌∙◌}
use Rattle.tm_event_lines.proofs.BarLemmas.{spaced-bars}
use Rattle.tm_event_lines.proofs.bars.are_spaced_bars.Goals as goal

pub returns-in-32 : goal.returns-in-32
returns-in-32 c = λ is. spaced-bars c.args.bytes.now c.in-32.len_at_least (cc) (sym c.is_bars.ensures ∙ is)
