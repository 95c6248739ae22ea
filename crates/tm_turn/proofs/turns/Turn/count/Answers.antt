-- The step keeps the rule.
use Rattle.std.proofs.Common.{ap, sym, ◌∙◌, arith, subst, suc, ◌<◌, ◌^◌, length}
use Rattle.tm_turn.proofs.TurnStepsLemmas.{notes}
use Rattle.tm_turn.proofs.turns.Turn.count.Goals as goal

pub fetch_add-requires : goal.fetch_add-requires
fetch_add-requires g c =
    let seat = c.pass.inside.seat in
    let table = c.self.inside.table.shared in
    let pass = c.pass.invariant in
    let was = c.pass.view_is in
    let wide = c.self.invariant.0 in (
      ap (λ p. p.turn) was ∙ c.requires.of.0 ∙ ap (λ t. t.turn) (sym c.self.view_is),
      omega arith,
      notes g.V.Kept.entries g.V.Kept.label (g.V.Kept.label table.key.value) table.table_id.slots seat.id seat.me.0 pass.lives pass.knows pass.keeps_none
          (ap (λ p. p.holds) was ∙ c.requires.holds) seat.me.1 g.E.Noted.entry (c.requires.own ∙ ap (λ p. p.number) (sym was))
          (subst (λ p. suc (length p.seen) < 2 ^ 64) (sym was) c.requires.short),
    )
