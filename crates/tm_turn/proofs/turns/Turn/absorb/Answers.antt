-- Each step keeps the rule.
use Rattle.std.proofs.Common.{ap, sym, ◌∙◌, arith}
use Rattle.tm_turn.proofs.JoinedPassesLemmas.{absorbs, learns}
use Rattle.tm_turn.proofs.turns.Turn.absorb.Goals as goal

pub join_seat-requires : goal.join_seat-requires
join_seat-requires g c =
    let table = c.self.inside.table.shared in
    let its = ap (λ t. t.turn) (sym c.self.view_is) in
    let seat = c.pass.inside.seat in
    let pass = c.pass.invariant in
    let was = c.pass.view_is in
    let seat_other = c.other.inside.seat in
    let other = c.other.invariant in
    let was_other = c.other.view_is in
    let wide = c.self.invariant.0 in
    let idle = ap (λ p. p.holds) was ∙ c.requires.idle in
    let idle_other = ap (λ p. p.holds) was_other ∙ c.requires.idle_other in (
      ap (λ p. p.turn) was ∙ c.requires.of.0 ∙ its,
      ap (λ p. p.turn) was_other ∙ c.requires.of_other.0 ∙ its,
      other.without idle_other,
      omega arith,
      absorbs g.V.Kept.entries g.V.Kept.label (g.V.Kept.label table.key.value) seat.id seat_other.id seat.me.0 seat_other.me.0
          pass.lives pass.knows idle (ap (λ p. p.number) was ∙ c.requires.root) other.lives other.knows idle_other,
    )

pub load-requires : goal.load-requires
load-requires g c =
    let table = c.self.inside.table.shared in
    let seat = c.join_seat.new.seat in
    let pass = c.pass.invariant in
    let was = c.pass.view_is in
    let wide = c.self.invariant.0 in
    let me = c.join_seat.ensures.2 in (
      c.join_seat.ensures.0 ∙ ap (λ p. p.turn) was ∙ c.requires.of.0 ∙ ap (λ t. t.turn) (sym c.self.view_is),
      omega arith,
      learns g.V.Kept.entries g.V.Kept.label (g.V.Kept.label table.key.value) table.table_id.slots seat.id seat.me.0
          (ap (λ m. m.0.lives) me ∙ pass.lives) (ap (λ m. m.0.knows) me ∙ pass.knows) (ap (λ m. m.0.holds) me ∙ ap (λ p. p.holds) was ∙ c.requires.idle)
          seat.me.1 (ap (λ m. m.0.keeps) me),
    )
