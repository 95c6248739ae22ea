-- The step keeps the rule, and who won has the value.
use Rattle.std.proofs.Common.{ap, sym, ◌∙◌, arith, add-one, suc, ◌+◌, ◌∷◌, Some}
use Rattle.atomic_table.specs.Table.{rest}
use Rattle.tm_turn.proofs.TurnStepsLemmas.{tries}
use Rattle.tm_turn.proofs.turns.Turn.try_take.Goals as goal

pub compare_exchange-found-requires : goal.compare_exchange-found-requires
compare_exchange-found-requires g c =
    let seat = c.pass.inside.seat in
    let table = c.self.inside.table.shared in
    let pass = c.pass.invariant in
    let was = c.pass.view_is in
    let wide = c.self.invariant.0 in
    let idle = ap (λ p. p.holds) was ∙ c.requires.idle in (
      ap (λ p. p.turn) was ∙ c.requires.of.0 ∙ ap (λ t. t.turn) (sym c.self.view_is),
      omega arith,
      tries g.V.Kept.entries g.V.Kept.label (g.V.Kept.label table.key.value) table.table_id.slots seat.id seat.me.0 pass.lives pass.knows pass.keeps_none idle
          (c.from-word.result + 1) (add-one c.from-word.result ∙ ap suc (c.from-word.ensures ∙ sym pass.same_number)) seat.me.1 (pass.without idle),
    )

pub exchange-requires : goal.exchange-requires
exchange-requires g c =
    let was = c.pass.view_is in
    let wins = c.compare_exchange-found.ensures.2.0 c.if-found-ne0.false in (
      c.compare_exchange-found.ensures.0 ∙ ap (λ p. p.turn) was ∙ c.requires.of.0 ∙ ap (λ t. t.turn) (sym c.self.view_is),
      (Some wins.value, wins.took ∙ ap (λ l. (0, Some wins.value) ∷ rest l) (sym wins.took)),
    )
