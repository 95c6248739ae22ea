use Rattle.std.proofs.Common.{◌≡◌, ◌+◌, ℕ, length, ap, ◌∙◌, arith}
use Rattle.std.proofs.lemmas.List.{length_push}
use Rattle.tm_text.specs.Exercises.{ExerciseView}
use Rattle.tm_makers.specs.Drafts.{Thread}
use Rattle.tm_makers.specs.LineForms.{numbered}
use Rattle.tm_makers.proofs.PartsLemmas.{grows}
use Rattle.tm_makers.proofs.drafts.Draft.run_all.Goals as goal

pub loop-i-preserved : goal.loop-i-preserved
loop-i-preserved c =
    let word = c.args.word.now in
    let program = c.args.program.now in
    let i = c.loop-i.i in
    let next : 1 + i ≡ i + 1 = omega arith in
    let name = c.in_ok-numbered.field-0 in
    let added = c.in_ok-run.ensures in
    let size = ap (λ (x : ExerciseView). length x.programs) added ∙ length_push c.loop-i.self.programs program in
    record {
      drafted = grows c.args.self.now c.loop-i.self c.run.new.self (λ (k : ℕ). Thread (numbered word k) program) (Thread name program) 1 i (i + 1) next c.loop-i.invariant.drafted
          (ap (λ n. Thread n program) c.in_ok-numbered.ensures) added;
      threads = omega arith;
    }
