-- The value is at home, and its list is what pass 0 has seen.
use Rattle.std.proofs.Common.{◌≡◌, ℕ, true, ap, sym, ◌∙◌, subst, IsSome, refl}
use Rattle.tm_turn.specs.Prefixes.{AreOf, has}
use Rattle.tm_turn.proofs.ClosingLemmas.{closes}
use Rattle.tm_turn.proofs.turns.Turn.close.Goals as goal

pub unwrap-requires : goal.unwrap-requires
unwrap-requires g c =
    let seat = c.pass.inside.seat in
    let pass = c.pass.invariant in
    let was = c.pass.view_is in
    let table = c.self.inside.table.shared in
    let closed =
    closes g.V.Kept.entries g.V.Kept.label (g.V.Kept.label table.key.value) seat.id seat.me.0 _ _ c.take-value.result c.close_with-closed.ensures.values.2
    pass.lives pass.knows (ap (λ p. p.holds) was ∙ c.requires.idle) (ap (λ p. p.number) was ∙ c.requires.root)
    (subst (λ p. (n : ℕ) → has n p.given ≡ true → has n p.absorbed ≡ true) (sym was) c.requires.back) c.take-value.ensures.value in
    subst IsSome (sym closed.is) refl

pub returns : goal.returns
returns g c =
    let seat = c.pass.inside.seat in
    let pass = c.pass.invariant in
    let was = c.pass.view_is in
    let table = c.self.inside.table.shared in
    let closed =
    closes g.V.Kept.entries g.V.Kept.label (g.V.Kept.label table.key.value) seat.id seat.me.0 _ _ c.take-value.result c.close_with-closed.ensures.values.2
    pass.lives pass.knows (ap (λ p. p.holds) was ∙ c.requires.idle) (ap (λ p. p.number) was ∙ c.requires.root)
    (subst (λ p. (n : ℕ) → has n p.given ≡ true → has n p.absorbed ≡ true) (sym was) c.requires.back) c.take-value.ensures.value in
    let is = closed.is in
    let some_result = c.unwrap.ensures in
    let same : c.unwrap.result ≡ closed.value = cc (is, some_result) in
    record {
      list = ap g.V.Kept.entries same ∙ closed.list ∙ ap (λ p. p.seen) was;
      label = ap g.V.Kept.label same ∙ closed.same_label ∙ ap (λ t. t.label) c.self.view_is;
      numbers = subst (λ p. AreOf p.absorbed (g.V.Kept.entries c.unwrap.result)) was (subst (λ l. AreOf seat.me.0.absorbed l) (ap g.V.Kept.entries (sym same)) closed.numbers);
    }
