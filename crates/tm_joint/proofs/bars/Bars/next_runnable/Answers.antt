use Rattle.std.proofs.Common.{◌≡◌, ◌≤◌, ℕ, List, length, sym, ap, ◌∙◌, subst, arith}
use Rattle.tm_base.specs.declared.bars.Bar.{Bar}
use Rattle.tm_replay.specs.Choosing.{next_thread}
use Rattle.tm_joint.proofs.ChoosingLemmas.{next-later, next-none, next-sooner}
use Rattle.tm_joint.proofs.bars.Bars.next_runnable.Goals as goal

known : (bars now : List Bar) (last : ℕ) → bars ≡ now → last ≤ length now → last ≤ length bars
known bars now last is h = subst (λ (b : List Bar). last ≤ length b) (sym is) h

pub returns-in-Some : goal.returns-in-Some
returns-in-Some c =
    let i = c.self.inside in
    sym (next-later i.bars.items i.running (omega (arith, c.self.invariant.few)) c.self.invariant.running c.args.last (known i.bars.items _ c.args.last c.self.view_is c.requires) c.in-Some.place c.in-Some.ensures)
    ∙ ap (λ (b : List Bar). next_thread b c.args.last) c.self.view_is

pub returns-in-Some-first_place : goal.returns-in-Some-first_place
returns-in-Some-first_place c =
    let i = c.self.inside in
    sym (next-sooner i.bars.items i.running (omega (arith, c.self.invariant.few)) c.self.invariant.running c.args.last (known i.bars.items _ c.args.last c.self.view_is c.requires) c.in-Some-first_place.place c.in_default.ensures c.in-Some-first_place.ensures)
    ∙ ap (λ (b : List Bar). next_thread b c.args.last) c.self.view_is

pub returns-in-None : goal.returns-in-None
returns-in-None c =
    let i = c.self.inside in
    sym (next-none i.bars.items i.running (omega (arith, c.self.invariant.few)) c.self.invariant.running c.args.last (known i.bars.items _ c.args.last c.self.view_is c.requires) c.in_default.ensures c.in-None.ensures)
    ∙ ap (λ (b : List Bar). next_thread b c.args.last) c.self.view_is
