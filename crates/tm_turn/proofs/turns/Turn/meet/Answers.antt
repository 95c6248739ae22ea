-- Each step keeps the rule.
use Rattle.std.proofs.Common.{ap, sym, ◌∙◌, arith}
use Rattle.tm_turn.proofs.JoinedPassesLemmas.{tells, meets, learns}
use Rattle.tm_turn.proofs.turns.Turn.meet.Goals as goal

pub split_seat-note-requires : goal.split_seat-note-requires
split_seat-note-requires g c =
    let table = c.self.inside.table.shared in
    let seat = c.other.inside.seat in
    let other = c.other.invariant in
    let was = c.other.view_is in
    let wide = c.self.invariant.0 in (
      ap (λ p. p.turn) was ∙ c.requires.of_other.0 ∙ ap (λ t. t.turn) (sym c.self.view_is),
      omega arith,
      tells g.V.Kept.entries g.V.Kept.label (g.V.Kept.label table.key.value) seat.id seat.me.0 other.lives other.knows (ap (λ p. p.holds) was ∙ c.requires.idle_other),
    )

pub join_seat-requires : goal.join_seat-requires
join_seat-requires g c =
    let table = c.self.inside.table.shared in
    let its = ap (λ t. t.turn) (sym c.self.view_is) in
    let seat = c.pass.inside.seat in
    let pass = c.pass.invariant in
    let was = c.pass.view_is in
    let other = c.other.invariant in
    let note = c.split_seat-note.result in
    let of_note = c.split_seat-note.ensures in
    let me = of_note.4 in
    let wide = c.self.invariant.0 in (
      ap (λ p. p.turn) was ∙ c.requires.of.0 ∙ its,
      of_note.3 ∙ ap (λ p. p.turn) c.other.view_is ∙ c.requires.of_other.0 ∙ its,
      ap (λ m. m.1) me,
      omega arith,
      meets g.V.Kept.entries g.V.Kept.label (g.V.Kept.label table.key.value) seat.id note.id seat.me.0 note.me.0
          pass.lives pass.knows (ap (λ p. p.holds) was ∙ c.requires.idle) (ap (λ m. m.0.lives) me) (ap (λ m. m.0.knows) me ∙ other.knows) (ap (λ m. m.0.holds) me),
    )

pub load-requires : goal.load-requires
load-requires g c =
    let table = c.self.inside.table.shared in
    let seat = c.join_seat.new.seat in
    let pass = c.pass.invariant in
    let was = c.pass.view_is in
    let wide = c.self.invariant.0 in
    let me = c.join_seat.ensures.2 in (
      c.join_seat.ensures.0 ∙ ap (λ p. p.turn) was ∙ c.requires.of.0 ∙ ap (λ t. t.turn) (sym c.self.view_is),
      omega arith,
      learns g.V.Kept.entries g.V.Kept.label (g.V.Kept.label table.key.value) table.table_id.slots seat.id seat.me.0
          (ap (λ m. m.0.lives) me ∙ pass.lives) (ap (λ m. m.0.knows) me ∙ pass.knows) (ap (λ m. m.0.holds) me ∙ ap (λ p. p.holds) was ∙ c.requires.idle)
          seat.me.1 (ap (λ m. m.0.keeps) me),
    )
