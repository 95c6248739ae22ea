use Rattle.std.proofs.Common.{◌≡◌, List, replicate, sym, subst, arith, rules}
use Rattle.std.proofs.lemmas.Grind.{common_steps}
use Rattle.tm_base.specs.declared.bars.Bar.{Bar}
use Rattle.tm_base.specs.declared.bars.Bar.TheVariants as bar
use Rattle.tm_joint.specs.Bits.{HasRunnable}
use Rattle.tm_joint.proofs.BitsLemmas.{HasRunnable-start}
use Rattle.tm_joint.proofs.bars.Bars.make.Goals as goal

pub invariant_of-result : goal.invariant_of-result
invariant_of-result c = let items : c.in_ok-bars.bars.items ≡ replicate c.args.threads bar.Unborn = first_of (search rules, grind (arith, common_steps)) in record {
  going = grind (arith, common_steps);
  runnable = grind (arith, common_steps);
  few = grind (arith, common_steps);
  running = subst (λ (b : List Bar). HasRunnable b c.first_places-running.result) (sym items) (HasRunnable-start c.args.threads c.first_places-running.result c.first_places-running.ensures);
}
