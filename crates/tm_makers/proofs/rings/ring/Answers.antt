use Rattle.std.proofs.Common.{◌≡◌, ◌+◌, ◌++◌, ℕ, List, length, map, codes, true, arith, sym, ap, ◌∙◌}
use Rattle.std.specs.List.{range_with_len}
use Rattle.std.proofs.lemmas.List.{append-nil, length_push}
use Rattle.tm_base.specs.declared.kinds.Kind.TheVariants as kind
use Rattle.tm_text.specs.Exercises.{ExerciseView}
use Rattle.tm_makers.specs.Drafts.{Part, Thread, no_parts, objects_of, with_parts}
use Rattle.tm_makers.specs.LineForms.{numbered}
use Rattle.tm_makers.specs.RingPrograms.{ring_program}
use Rattle.tm_makers.specs.Rings.{is_ring, lines_of_ring}
use Rattle.tm_makers.proofs.Made.{IsMade, finished, made}
use Rattle.tm_makers.proofs.PartsLemmas.{grows, then}
use Rattle.tm_makers.proofs.RingLayout.{layout, lines, sound}
use Rattle.tm_makers.proofs.rings.ring.Goals as goal

abbrev ring_thread : ℕ → ℕ → ℕ → Part
ring_thread n rounds i = Thread (numbered (codes "T") i) (ring_program n rounds i)

pub loop-i-preserved : goal.loop-i-preserved
loop-i-preserved c =
    let n = c.args.n in
    let rounds = c.args.rounds in
    let i = c.loop-i.i in
    let next : 0 + i ≡ i = omega arith in
    let name = c.in_ok-numbered.field-0 in
    let program = ring_program n rounds i in
    let added = c.in_ok-run.ensures in
    let same : Thread name c.pass.result ≡ ring_thread n rounds i = ap (λ m. Thread m c.pass.result) c.in_ok-numbered.ensures ∙ ap (Thread (numbered (codes "T") i)) c.pass.ensures in
    let size = ap (λ (x : ExerciseView). length x.programs) added ∙ length_push c.loop-i.draft.programs c.pass.result in
    record {
      drafted = grows c.declare_all.new.self c.loop-i.draft c.run.new.self (ring_thread n rounds) (Thread name c.pass.result) 0 i i next c.loop-i.invariant.drafted same added;
      threads = omega arith;
    }

made-here : (n rounds i : ℕ) (start before draft : ExerciseView) → is_ring n rounds ≡ true → i ≡ n → start ≡ no_parts
    → before ≡ with_parts start (objects_of (codes "c") n kind.Sync) → draft ≡ with_parts before (map (ring_thread n rounds) (range_with_len 0 i)) → IsMade draft (lines_of_ring n rounds)
made-here n rounds i start before draft h same none first second =
    let channels = objects_of (codes "c") n kind.Sync in
    let threads = map (ring_thread n rounds) (range_with_len 0 n) in
    let begun = first ∙ ap (λ (x : ExerciseView). with_parts x channels) none in
    let all = second ∙ ap (λ k. with_parts before (map (ring_thread n rounds) (range_with_len 0 k))) same in
    made draft (lines_of_ring n rounds) (layout n rounds) (sound n rounds h) (lines n rounds h)
    (then before draft channels threads begun all ∙ ap (λ (ts : List Part). with_parts no_parts (channels ++ ts)) (sym (append-nil threads)))

pub finish-requires : goal.finish-requires
finish-requires c =
    let same : c.loop-i.i ≡ c.args.n = omega arith in
    (made-here c.args.n c.args.rounds c.loop-i.i c.new-draft.result c.declare_all.new.self c.loop-i.draft c.requires same c.new-draft.ensures c.in_ok-declare_all.ensures.added c.loop-i.invariant.drafted).well_formed

pub returns : goal.returns
returns c =
    let same : c.loop-i.i ≡ c.args.n = omega arith in
    finished c.loop-i.draft (lines_of_ring c.args.n c.args.rounds) c.finish.result
    (made-here c.args.n c.args.rounds c.loop-i.i c.new-draft.result c.declare_all.new.self c.loop-i.draft c.requires same c.new-draft.ensures c.in_ok-declare_all.ensures.added c.loop-i.invariant.drafted)
    c.finish.ensures
