use Rattle.std.proofs.Common.{◌≡◌, ◌+◌, ◌++◌, ℕ, length, map, codes, true, arith, ap, ◌∙◌}
use Rattle.std.specs.List.{range_with_len}
use Rattle.std.proofs.lemmas.List.{length_push}
use Rattle.tm_base.specs.declared.kinds.Kind.TheVariants as kind
use Rattle.tm_text.specs.Exercises.{ExerciseView}
use Rattle.tm_makers.specs.declared.plans.Way.{Way}
use Rattle.tm_makers.specs.Drafts.{Part, Thread, no_parts, objects_of, with_parts}
use Rattle.tm_makers.specs.LineForms.{numbered}
use Rattle.tm_makers.specs.PhilosopherPrograms.{chairs_parts, philosopher_program}
use Rattle.tm_makers.specs.Philosophers.{are_philosophers, lines_of_philosophers}
use Rattle.tm_makers.proofs.Made.{IsMade, finished, made}
use Rattle.tm_makers.proofs.PartsLemmas.{grows, then}
use Rattle.tm_makers.proofs.PhilosophersLayout.{layout, lines, parts-are, sound}
use Rattle.tm_makers.proofs.philosophers.philosophers.Goals as goal

abbrev philosopher_part : ℕ → ℕ → Way → ℕ → Part
philosopher_part n rounds w i = Thread (numbered (codes "P") i) (philosopher_program n rounds w i)

pub loop-i-preserved : goal.loop-i-preserved
loop-i-preserved c =
    let n = c.args.n in
    let rounds = c.args.rounds in
    let w = c.args.way in
    let i = c.loop-i.i in
    let next : 0 + i ≡ i = omega arith in
    let name = c.in_ok-name.name in
    let program = c.as_slice.result.now in
    let added = c.in_ok-run.ensures in
    let is = c.as_slice.ensures.value ∙ c.in_ok-program.ensures in
    let same : Thread name program ≡ philosopher_part n rounds w i = ap (λ m. Thread m program) c.in_ok-name.ensures ∙ ap (Thread (numbered (codes "P") i)) is in
    let size = ap (λ (x : ExerciseView). length x.programs) added ∙ length_push c.loop-i.draft.programs program in
    record {
      drafted = grows c.declare_chairs.new.draft c.loop-i.draft c.run.new.self (philosopher_part n rounds w) (Thread name program) 0 i i next c.loop-i.invariant.drafted same added;
      threads = omega arith;
    }

made-here : (n rounds : ℕ) (w : Way) (i : ℕ) (d0 d1 d2 d3 : ExerciseView) → are_philosophers n rounds ≡ true → i ≡ n → d0 ≡ no_parts
    → d1 ≡ with_parts d0 (objects_of (codes "f") n kind.Mutex) → d2 ≡ with_parts d1 (chairs_parts n w) → d3 ≡ with_parts d2 (map (philosopher_part n rounds w) (range_with_len 0 i))
    → IsMade d3 (lines_of_philosophers n rounds w)
made-here n rounds w i d0 d1 d2 d3 h same none first second third =
    let forks = objects_of (codes "f") n kind.Mutex in
    let threads = map (philosopher_part n rounds w) (range_with_len 0 n) in
    let one = first ∙ ap (λ (x : ExerciseView). with_parts x forks) none in
    let two = then d1 d2 forks (chairs_parts n w) one second in
    let all = third ∙ ap (λ k. with_parts d2 (map (philosopher_part n rounds w) (range_with_len 0 k))) same in
    let three = then d2 d3 (forks ++ chairs_parts n w) threads two all in
    made d3 (lines_of_philosophers n rounds w) (layout n rounds w) (sound n rounds w h) (lines n rounds h w)
    (three ∙ ap (with_parts no_parts) (parts-are n rounds h w))

pub finish-requires : goal.finish-requires
finish-requires c =
    let same : c.loop-i.i ≡ c.args.n = omega arith in
    (made-here c.args.n c.args.rounds c.args.way c.loop-i.i c.new-draft.result c.declare_all.new.self c.declare_chairs.new.draft c.loop-i.draft c.requires same c.new-draft.ensures c.in_ok-declare_all.ensures.added
    c.in_ok-declare_chairs.ensures c.loop-i.invariant.drafted).well_formed

pub returns : goal.returns
returns c =
    let same : c.loop-i.i ≡ c.args.n = omega arith in
    finished c.loop-i.draft (lines_of_philosophers c.args.n c.args.rounds c.args.way) c.finish.result
    (made-here c.args.n c.args.rounds c.args.way c.loop-i.i c.new-draft.result c.declare_all.new.self c.declare_chairs.new.draft c.loop-i.draft c.requires same c.new-draft.ensures c.in_ok-declare_all.ensures.added
    c.in_ok-declare_chairs.ensures c.loop-i.invariant.drafted)
    c.finish.ensures
