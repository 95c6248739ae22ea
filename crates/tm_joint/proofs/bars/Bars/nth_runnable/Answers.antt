use Rattle.std.proofs.Common.{◌≡◌, ◌≤◌, ℕ, List, length, sym, subst, arith}
use Rattle.tm_base.specs.declared.bars.Bar.{Bar}
use Rattle.tm_joint.specs.Bits.{HasRunnable}
use Rattle.tm_joint.proofs.ChoosingLemmas.{nth-here, nth-none, nth-step}
use Rattle.tm_joint.proofs.bars.Bars.nth_runnable.Goals as goal

few : (bars now : List Bar) → bars ≡ now → length bars ≤ 64 → length now ≤ 64
few bars now is h = subst (λ (b : List Bar). length b ≤ 64) is h

has : (bars now : List Bar) (set : ℕ) → bars ≡ now → HasRunnable bars set → HasRunnable now set
has bars now set is h = subst (λ (b : List Bar). HasRunnable b set) is h

pub loop-left-preserved : goal.loop-left-preserved
loop-left-preserved c =
    let i = c.self.inside in
    let l = c.loop-left in
    record {
      within = omega (arith, c.in-Some.ensures.within);
      rest = nth-step c.args.self.now i.running (few i.bars.items c.args.self.now c.self.view_is (omega (arith, c.self.invariant.few)))
          (has i.bars.items c.args.self.now i.running c.self.view_is c.self.invariant.running) c.args.nth l.from l.left l.invariant.rest c.in-Some.place c.in-Some.ensures c.loop-left-test.true;
    }

pub returns-in_default : goal.returns-in_default
returns-in_default c =
    let i = c.self.inside in
    let l = c.loop-left in
    sym (nth-none c.args.self.now i.running (few i.bars.items c.args.self.now c.self.view_is (omega (arith, c.self.invariant.few)))
    (has i.bars.items c.args.self.now i.running c.self.view_is c.self.invariant.running) c.args.nth l.from l.left l.invariant.rest c.in_default.ensures l.invariant.within)

pub returns-in-Some-first_place : goal.returns-in-Some-first_place
returns-in-Some-first_place c =
    let i = c.self.inside in
    let l = c.loop-left in
    sym (nth-here c.args.self.now i.running (few i.bars.items c.args.self.now c.self.view_is (omega (arith, c.self.invariant.few)))
    (has i.bars.items c.args.self.now i.running c.self.view_is c.self.invariant.running) c.args.nth l.from l.left l.invariant.rest c.in-Some-first_place.place c.in-Some-first_place.ensures (omega (arith, c.loop-left-test.false)))

pub returns-in-None : goal.returns-in-None
returns-in-None c =
    let i = c.self.inside in
    let l = c.loop-left in
    sym (nth-none c.args.self.now i.running (few i.bars.items c.args.self.now c.self.view_is (omega (arith, c.self.invariant.few)))
    (has i.bars.items c.args.self.now i.running c.self.view_is c.self.invariant.running) c.args.nth l.from l.left l.invariant.rest c.in-None.ensures l.invariant.within)
