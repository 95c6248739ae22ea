use Rattle.std.proofs.Common.{sym, ◌∙◌}
use Rattle.tm_lines.proofs.FirstBytesLemmas.{declares-nothing}
use Rattle.tm_lines.proofs.names.may_declare.Goals as goal

pub returns-else-is_blank : goal.returns-else-is_blank
returns-else-is_blank c = λ h.
    declares-nothing c.args.line.now c.in-len2-up.len_at_least (sym c.is_blank.ensures ∙ c.if-is_blank.false) (sym c.can_begin.ensures ∙ h)
