use Rattle.std.proofs.Common.{◌&&◌, ◌==◌, sym, ap, ◌∙◌}
use Rattle.std.specs.List.{list_all}
use Rattle.tm_event_lines.specs.EventFaults.{closes_bars, is_bar_letter}
use Rattle.tm_event_lines.proofs.BarLemmas.{closes_bars-last, closes_bars-other}
use Rattle.tm_event_lines.proofs.bars.closes_bars.Goals as goal

pub returns-then-last-eq93 : goal.returns-then-last-eq93
returns-then-last-eq93 c =
    let letters = c.in-Some.letters.now in
    c.are_bar_letters.ensures
    ∙ ap (λ n. (n == 93) && list_all is_bar_letter letters) (sym c.if-last-eq93.true)
    ∙ sym (closes_bars-last letters c.in-Some.last.now) ∙ ap closes_bars (sym c.in-Some.ensures.cases.0)

pub returns-else-last-eq93 : goal.returns-else-last-eq93
returns-else-last-eq93 c =
    closes_bars-other c.in-Some.letters.now c.in-Some.last.now c.if-last-eq93.false ∙ ap closes_bars (sym c.in-Some.ensures.cases.0)
