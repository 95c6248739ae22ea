use Rattle.std.proofs.Common.{sym, ◌∙◌, refl}
use Rattle.tm_lines.specs.Checks.{Check}
use Rattle.tm_lines.proofs.ReadLinesLemmas.{follows-read}
use Rattle.tm_lines.proofs.checker.Checker.next_line.Goals as goal

pub returns : goal.returns
returns c =
    let a = c.self.inside in
    let b = c.self-2.inside in
    let old : Check = record { text = a.names; number = a.number; place = a.place; rest = a.rest.now } in
    let middle : Check = record { text = b.names; number = b.number; place = b.place; rest = b.rest.now } in
    let new : Check = record { text = b.names; number = b.number; place = c.take_words.new.self; rest = b.rest.now } in
    rw (← c.self.view_is)
    (follows-read old middle new c.cut_line-cut.result c.known-known.result c.take_words.result c.cut_line-cut.ensures c.if-not-cut.false
    (λ ws are. sym c.if-are_ignored.false ∙ c.are_ignored.ensures ws are) c.known-known.ensures.known (c.self-2.view_is ∙ c.known-known.ensures.same) c.take_words.ensures refl)
