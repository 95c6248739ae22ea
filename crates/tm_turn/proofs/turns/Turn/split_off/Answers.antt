-- Each step keeps the rule.
use Rattle.std.proofs.Common.{◌<◌, ◌^◌, ap, sym, ◌∙◌, arith}
use Rattle.tm_turn.specs.Prefixes.{has}
use Rattle.tm_turn.proofs.JoinedPassesLemmas.{looks, splits}
use Rattle.tm_turn.proofs.turns.Turn.split_off.Goals as goal

pub load-requires : goal.load-requires
load-requires g c =
    let seat = c.pass.inside.seat in
    let table = c.self.inside.table.shared in
    let pass = c.pass.invariant in
    let was = c.pass.view_is in
    let wide = c.self.invariant.0 in (
      ap (λ p. p.turn) was ∙ c.requires.of.0 ∙ ap (λ t. t.turn) (sym c.self.view_is),
      omega arith,
      looks g.V.Kept.entries g.V.Kept.label (g.V.Kept.label table.key.value) table.table_id.slots seat.id seat.me.0 pass.lives pass.knows
          (ap (λ p. p.holds) was ∙ c.requires.idle) seat.me.1 pass.keeps_none (ap (λ p. p.number) was ∙ c.requires.root),
    )

pub split_seat-seat-requires : goal.split_seat-seat-requires
split_seat-seat-requires g c =
    let table = c.self.inside.table.shared in
    let pass = c.pass.invariant in
    let was = c.pass.view_is in
    let wide = c.self.invariant.0 in
    let me = c.load.ensures.2.0 in
    let n = g.N.Numbered.number in
    let some_number : 0 < n = omega (arith, c.requires.same, c.requires.number) in
    let small : n < 2 ^ 32 = omega (arith, c.requires.same, c.ranges.number.fits) in (
      c.load.ensures.0 ∙ ap (λ p. p.turn) was ∙ c.requires.of.0 ∙ ap (λ t. t.turn) (sym c.self.view_is),
      omega arith,
      splits g.V.Kept.entries g.V.Kept.label (g.V.Kept.label table.key.value) c.load.new.seat.id n c.load.new.seat.me.0
          (ap (λ m. m.0.lives) me ∙ pass.lives) (ap (λ m. m.0.knows) me ∙ pass.knows) (ap (λ m. m.0.keeps) me ∙ pass.keeps_none)
          (ap (λ m. m.0.holds) me ∙ ap (λ p. p.holds) was ∙ c.requires.idle) (ap (λ m. m.0.number) me ∙ ap (λ p. p.number) was ∙ c.requires.root)
          some_number small (ap (λ m. has n m.0.given) me ∙ ap (λ p. has n p.given) was ∙ c.requires.unused),
    )
