use Rattle.std.proofs.Common.{◌≡◌, ◌+◌, ℕ, ap, ◌∙◌, arith}
use Rattle.tm_text.specs.Exercises.{ExerciseView}
use Rattle.tm_makers.specs.Drafts.{Object}
use Rattle.tm_makers.specs.LineForms.{numbered}
use Rattle.tm_makers.proofs.PartsLemmas.{grows}
use Rattle.tm_makers.proofs.drafts.Draft.declare_all.Goals as goal

pub loop-i-preserved : goal.loop-i-preserved
loop-i-preserved c =
    let word = c.args.word.now in
    let kind = c.args.kind in
    let i = c.loop-i.i in
    let next : 0 + i ≡ i = omega arith in
    let name = c.in_ok-numbered.field-0 in
    let added = c.in_ok-declare.ensures in
    record {
      drafted = grows c.args.self.now c.loop-i.self c.declare.new.self (λ (k : ℕ). Object (numbered word k) kind) (Object name kind) 0 i i next c.loop-i.invariant.drafted
          (ap (λ n. Object n kind) c.in_ok-numbered.ensures) added;
      programs = ap (λ (x : ExerciseView). x.programs) added ∙ c.loop-i.invariant.programs;
    }
