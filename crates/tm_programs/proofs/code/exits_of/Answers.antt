-- Each arm takes what is known at the place after to the place itself.
use Rattle.std.proofs.Common.{◌≡◌, ℕ, suc, ◌+◌, ◌-◌, ◌<◌, List, length, Some, ap, ◌∙◌, subst, arith}
use Rattle.std.proofs.lemmas.Bool.{false≢true}
use Rattle.std.proofs.lemmas.List.{nil_from_length}
use Rattle.std.proofs.lemmas.Option.{slice_get-get_or}
use Rattle.tm_programs.proofs.Exits.{Known, known-start, known-suc, known-plain, known-end, known-room, known-opens, known-none, opens-one, opens-none}
use Rattle.tm_programs.proofs.code.exits_of.Goals as goal

pub loop-place-init : goal.loop-place-init
loop-place-init c =
    let places : length c.in_ok-exits.exits.items ≡ length c.args.instructions.now =
    omega (arith, c.in_ok-exits.exits.ok.0, c.in_ok-exits.ensures.len) in
    rw c.new-open.ensures (known-start c.args.instructions.now c.in_ok-exits.exits.items places)

pub push-requires : goal.push-requires
push-requires c =
    let items = c.args.instructions.now in
    let at = c.loop-place in
    let known = known-suc items at.open.items at.exits.items at.place c.loop-place-test.true at.invariant in
    let within : at.place - 1 < length items = omega arith in
    let here = slice_get-get_or items (at.place - 1) _ within ∙ ap Some c.in-End.is in
    (omega arith, known-room items at.exits.items (at.place - 1) at.open.items c.requires here known)

pub loop-place-preserved-in-End : goal.loop-place-preserved-in-End
loop-place-preserved-in-End c =
    let items = c.args.instructions.now in
    let at = c.loop-place in
    let known = known-suc items at.open.items at.exits.items at.place c.loop-place-test.true at.invariant in
    let within : at.place - 1 < length items = omega arith in
    let here = slice_get-get_or items (at.place - 1) _ within ∙ ap Some c.in-End.is in
    let after : at.place - 1 + 1 ≡ suc (at.place - 1) = omega arith in
    rw (c.push.ensures.items, after)
    (known-end items at.exits.items (at.place - 1) at.open.items here known)

pub loop-place-preserved-in-Some : goal.loop-place-preserved-in-Some
loop-place-preserved-in-Some c =
    let items = c.args.instructions.now in
    let at = c.loop-place in
    let known = known-suc items at.open.items at.exits.items at.place c.loop-place-test.true at.invariant in
    let within : at.place - 1 < length items = omega arith in
    let here = slice_get-get_or items (at.place - 1) _ within in
    known-opens items at.exits.items (at.place - 1) c.pop.new.self.items c.in-Some.exit _ here
    (opens-one _ c.in-Repeat.is)
    (subst (λ (outs : List ℕ). Known items outs at.exits.items (suc (at.place - 1))) c.in-Some.ensures.items known)

pub loop-place-preserved-in_default-pop : goal.loop-place-preserved-in_default-pop
loop-place-preserved-in_default-pop c =
    let items = c.args.instructions.now in
    let at = c.loop-place in
    let known = known-suc items at.open.items at.exits.items at.place c.loop-place-test.true at.invariant in
    let empty : 0 < length at.open.items → ⊥ =
    (λ some. false≢true (c.in_default-pop.ensures.variant.1 some)) in
    let none : length at.open.items ≡ 0 = omega arith in
    let within : at.place - 1 < length items = omega arith in
    let known_none =
    subst (λ (outs : List ℕ). Known items outs at.exits.items (suc (at.place - 1)))
    (nil_from_length _ none) known in
    let here = slice_get-get_or items (at.place - 1) _ within in
    absurd
    (known-none items at.exits.items (at.place - 1) _ c.requires here (opens-one _ c.in-Repeat.is) known_none)

pub loop-place-preserved : goal.loop-place-preserved
loop-place-preserved c =
    let items = c.args.instructions.now in
    let at = c.loop-place in
    let known = known-suc items at.open.items at.exits.items at.place c.loop-place-test.true at.invariant in
    let within : at.place - 1 < length items = omega arith in
    let here = slice_get-get_or items (at.place - 1) _ within in
    known-plain items at.exits.items (at.place - 1) at.open.items _ here
    (opens-none _ c.in_default.not-Repeat c.in_default.not-While c.in_default.not-If) c.in_default.not-End known
