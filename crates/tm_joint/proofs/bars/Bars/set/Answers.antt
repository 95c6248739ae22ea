use Rattle.std.proofs.Common.{◌≤◌, ◌-◌, List, length, length-set, sym, ap, ◌∙◌, subst, arith}
use Rattle.std.proofs.lemmas.Grind.{common_steps}
use Rattle.tm_base.specs.declared.bars.Bar.{Bar}
use Rattle.tm_laws.specs.Counts.{bit}
use Rattle.tm_joint.proofs.BitsLemmas.{HasRunnable-set}
use Rattle.tm_joint.proofs.bars.Bars.set.Goals as goal

pub invariant_of-self : goal.invariant_of-self
invariant_of-self c =
    let i = c.self.inside in
    let k = c.args.thread - 1 in
    let known : c.args.thread ≤ length i.bars.items = subst (λ (b : List Bar). c.args.thread ≤ length b) (sym c.self.view_is) c.requires.known in
    record {
      going = grind (arith, common_steps);
      runnable = grind (arith, common_steps);
      few = omega (arith, length-set i.bars.items k c.args.bar, c.self.invariant.few);
      running = HasRunnable-set i.bars.items i.running c.with_place-self-inside.result k c.args.bar (omega (arith, known, c.requires.program)) c.self.invariant.running
          (c.with_place-self-inside.ensures.same ∙ ap bit c.is_runnable-3.ensures) c.with_place-self-inside.ensures.others;
    }
