-- The step keeps the rule.
use Rattle.std.proofs.Common.{ap, sym, ◌∙◌, arith, ◌∷◌, Some}
use Rattle.atomic_table.specs.Table.{rest}
use Rattle.tm_turn.proofs.TurnStepsLemmas.{gives_back}
use Rattle.tm_turn.proofs.turns.Turn.give.Goals as goal

pub store-requires : goal.store-requires
store-requires g c =
    let seat = c.pass.inside.seat in
    let table = c.self.inside.table.shared in
    let pass = c.pass.invariant in
    let was = c.pass.view_is in
    let its = c.self.view_is in
    let wide = c.self.invariant.0 in
    let holds = ap (λ p. p.holds) was ∙ c.requires.from.0 in
    let out = c.exchange.ensures.3 ∙ ap (λ l. (seat.me.0, (0, Some c.args.held.value) ∷ rest l)) (pass.with_slot holds) in (
      c.exchange.ensures.0 ∙ ap (λ p. p.turn) was ∙ c.requires.of.0 ∙ ap (λ t. t.turn) (sym its),
      omega arith,
      gives_back g.V.Kept.entries g.V.Kept.label (g.V.Kept.label table.key.value) table.table_id.slots c.exchange.new.seat.id seat.me.0 pass.lives pass.knows pass.keeps_none holds
          c.args.held.value c.exchange.new.seat.me out c.self.invariant.1 (c.requires.list ∙ ap (λ p. p.seen) (sym was))
          (c.requires.label ∙ sym c.requires.of.1 ∙ ap (λ p. p.label) (sym was)),
    )
