use Rattle.std.proofs.Common.{◌≡◌, ◌+◌, ◌-◌, ◌*◌, ◌≤◌, ◌++◌, ℕ, suc, List, length, map, codes, arith, refl, ap, ◌∙◌, subst}
use Rattle.std.specs.List.{range_with_len}
use Rattle.std.proofs.lemmas.List.{length_push}
use Rattle.tm_programs.specs.declared.instructions.Instruction.{Instruction}
use Rattle.tm_text.specs.Exercises.{ExerciseView}
use Rattle.tm_base.specs.Draws.{next_draw}
use Rattle.tm_makers.specs.Drafts.{Thread, no_parts, with_parts}
use Rattle.tm_makers.specs.LargeExercises.{drawn, lines_of_large, picked}
use Rattle.tm_makers.specs.LargePrograms.{large_program}
use Rattle.tm_makers.specs.LineForms.{numbered}
use Rattle.tm_makers.proofs.LargeLayout.{drawn_part, drawn_program, layout, lines, lines_with, mutexes, parts-are, semaphores, sound, threads, variables}
use Rattle.tm_makers.proofs.Made.{IsMade, finished, made}
use Rattle.tm_makers.proofs.PartsLemmas.{grows, then}
use Rattle.tm_makers.proofs.large_exercises.large.Goals as goal

-- the three draws of thread i
record Draws (y i first second third : ℕ) : Type 0 where
  one : first ≡ drawn y (3 * i - 2)
  two : second ≡ drawn y (3 * i - 1)
  three : third ≡ drawn y (3 * i)

draws : (y i draw first second third : ℕ) → 1 ≤ i → draw ≡ drawn y (3 * (i - 1)) → first ≡ next_draw draw → second ≡ next_draw first → third ≡ next_draw second → Draws y i first second third
draws y i draw first second third low before e f g =
    let k = 3 * (i - 1) in
    let to-one : suc k ≡ 3 * i - 2 = omega arith in
    let to-two : suc (suc k) ≡ 3 * i - 1 = omega arith in
    let to-three : suc (suc (suc k)) ≡ 3 * i = omega arith in
    let one : first ≡ drawn y (suc k) = e ∙ ap next_draw before in
    let two : second ≡ drawn y (suc (suc k)) = f ∙ ap next_draw one in
    let three : third ≡ drawn y (suc (suc (suc k))) = g ∙ ap next_draw two in
    record { one = one ∙ ap (drawn y) to-one; two = two ∙ ap (drawn y) to-two; three = three ∙ ap (drawn y) to-three }

program-is : (y i first second third a b c : ℕ) (program : List Instruction) → Draws y i first second third → a ≡ picked first → b ≡ picked second → c ≡ picked third → program ≡ large_program a b c
    → program ≡ drawn_program y i
program-is y i first second third a b c program d is-a is-b is-c made-of =
    made-of
    ∙ ap (λ k. large_program k b c) (is-a ∙ ap picked d.one)
    ∙ ap (λ k. large_program (picked (drawn y (3 * i - 2))) k c) (is-b ∙ ap picked d.two)
    ∙ ap (λ k. large_program (picked (drawn y (3 * i - 2))) (picked (drawn y (3 * i - 1))) k) (is-c ∙ ap picked d.three)

pub loop-i-preserved : goal.loop-i-preserved
loop-i-preserved c =
    let y = c.args.number in
    let i = c.loop-i.i in
    let low : 1 ≤ i = omega arith in
    let at : 1 + (i - 1) ≡ i = omega arith in
    let step : i - 1 + 1 ≡ i + 1 - 1 = omega arith in
    let name = c.in_ok-numbered.field-0 in
    let program = c.work-program.result in
    let added = c.in_ok-run.ensures in
    let d = draws y i c.loop-i.draw c.next_draw-first.result c.next_draw-second.result c.next_draw-third.result low c.loop-i.invariant.draw c.next_draw-first.ensures c.next_draw-second.ensures c.next_draw-third.ensures in
    let is = program-is y i c.next_draw-first.result c.next_draw-second.result c.next_draw-third.result c.picked.result c.picked-in-loop-i.result c.picked-in-loop-i-2.result program d
    c.picked.ensures.value c.picked-in-loop-i.ensures.value c.picked-in-loop-i-2.ensures.value c.work-program.ensures in
    let same : Thread name program ≡ drawn_part y i = ap (λ m. Thread m program) c.in_ok-numbered.ensures ∙ ap (Thread (numbered (codes "T") i)) is in
    let size = ap (λ (x : ExerciseView). length x.programs) added ∙ length_push c.loop-i.draft.programs program in
    let last : 3 * i ≡ 3 * (i + 1 - 1) = omega arith in
    record {
      drafted = grows c.declare_all-2.new.self c.loop-i.draft c.run.new.self (drawn_part y) (Thread name program) 1 (i - 1) i at c.loop-i.invariant.drafted same added
          ∙ ap (λ k. with_parts c.declare_all-2.new.self (map (drawn_part y) (range_with_len 1 k))) step;
      threads = omega arith;
      draw = d.three ∙ ap (drawn y) last;
    }

made-here : (y t i : ℕ) (d0 d1 d2 d3 d4 : ExerciseView) → t ≤ 64 → i - 1 ≡ t → d0 ≡ no_parts
    → d1 ≡ with_parts d0 mutexes → d2 ≡ with_parts d1 semaphores → d3 ≡ with_parts d2 variables → d4 ≡ with_parts d3 (map (drawn_part y) (range_with_len 1 (i - 1)))
    → d4 ≡ with_parts no_parts (((mutexes ++ semaphores) ++ variables) ++ threads y t)
made-here y t i d0 d1 d2 d3 d4 few same none first second third fourth =
    let one = first ∙ ap (λ (x : ExerciseView). with_parts x mutexes) none in
    let two = then d1 d2 mutexes semaphores one second in
    let three = then d2 d3 (mutexes ++ semaphores) variables two third in
    let all = fourth ∙ ap (λ k. with_parts d3 (map (drawn_part y) (range_with_len 1 k))) same in
    then d3 d4 ((mutexes ++ semaphores) ++ variables) (threads y t) three all

is-made : (y t : ℕ) (draft : ExerciseView) → t ≤ 64 → t ≡ 64 → draft ≡ with_parts no_parts (((mutexes ++ semaphores) ++ variables) ++ threads y t) → IsMade draft (lines_of_large y)
is-made y t draft few all drafted =
    let some : IsMade draft (lines_with y t) = made draft (lines_with y t) (layout y t) (sound y t few) (lines y t) (drafted ∙ ap (with_parts no_parts) (parts-are y t)) in
    subst (λ k. IsMade draft (lines_with y k)) all some

pub finish-requires : goal.finish-requires
finish-requires c =
    let t = c.loop-i.i - 1 in
    let few : t ≤ 64 = omega arith in
    let all : t ≡ 64 = omega arith in
    (is-made c.args.number t c.loop-i.draft few all
    (made-here c.args.number t c.loop-i.i c.new-draft.result c.declare_all.new.self c.declare_semaphores.new.draft c.declare_all-2.new.self c.loop-i.draft few refl c.new-draft.ensures c.in_ok-declare_all.ensures.added
    c.in_ok-declare_semaphores.ensures.added c.in_ok-declare_all-2.ensures.added c.loop-i.invariant.drafted)).well_formed

pub returns : goal.returns
returns c =
    let t = c.loop-i.i - 1 in
    let few : t ≤ 64 = omega arith in
    let all : t ≡ 64 = omega arith in
    record {
      made = finished c.loop-i.draft (lines_of_large c.args.number) c.finish.result
          (is-made c.args.number t c.loop-i.draft few all
          (made-here c.args.number t c.loop-i.i c.new-draft.result c.declare_all.new.self c.declare_semaphores.new.draft c.declare_all-2.new.self c.loop-i.draft few refl c.new-draft.ensures c.in_ok-declare_all.ensures.added
          c.in_ok-declare_semaphores.ensures.added c.in_ok-declare_all-2.ensures.added c.loop-i.invariant.drafted))
          c.finish.ensures;
    }
