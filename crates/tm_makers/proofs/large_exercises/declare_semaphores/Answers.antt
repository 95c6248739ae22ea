use Rattle.std.proofs.Common.{◌≡◌, ◌+◌, ◌%◌, ℕ, ap, ◌∙◌, arith}
use Rattle.tm_base.specs.declared.kinds.Kind.TheVariants as kind
use Rattle.tm_text.specs.Exercises.{ExerciseView}
use Rattle.tm_makers.specs.Drafts.{Object}
use Rattle.tm_makers.specs.LargeExercises.{sem_name}
use Rattle.tm_makers.proofs.PartsLemmas.{grows}
use Rattle.tm_makers.proofs.large_exercises.declare_semaphores.Goals as goal

pub loop-i-preserved : goal.loop-i-preserved
loop-i-preserved c =
    let i = c.loop-i.i in
    let next : 0 + i ≡ i = omega arith in
    let name = c.in_ok-numbered.field-0 in
    let added = c.in_ok-declare.ensures in
    record {
      drafted = grows c.args.draft.now c.loop-i.draft c.declare.new.self (λ (k : ℕ). Object (sem_name k) (kind.Sem (1 + k % 3))) (Object name (kind.Sem (1 + i % 3))) 0 i i next c.loop-i.invariant.drafted
          (ap (λ n. Object n (kind.Sem (1 + i % 3))) c.in_ok-numbered.ensures) added;
      programs = ap (λ (x : ExerciseView). x.programs) added ∙ c.loop-i.invariant.programs;
    }
