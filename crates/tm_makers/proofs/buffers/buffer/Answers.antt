use Rattle.std.proofs.Common.{◌≡◌, ◌*◌, ◌/◌, ◌++◌, [], List, ℕ, codes, true, ap, ◌∙◌}
use Rattle.tm_programs.specs.declared.instructions.Instruction.{Instruction}
use Rattle.tm_text.specs.Exercises.{ExerciseView}
use Rattle.tm_makers.specs.declared.plans.Guard.{Guard}
use Rattle.tm_makers.specs.BufferPrograms.{buffer_parts, buffer_program}
use Rattle.tm_makers.specs.Buffers.{are_buffer_sizes, lines_of_buffer}
use Rattle.tm_makers.specs.Drafts.{no_parts, threads_of, with_parts}
use Rattle.tm_makers.proofs.BufferLayout.{layout, lines, parts-are, put, sound, take}
use Rattle.tm_makers.proofs.Made.{IsMade, finished, made}
use Rattle.tm_makers.proofs.PartsLemmas.{ran_all, then}
use Rattle.tm_makers.proofs.buffers.buffer.Goals as goal

made-here : (producers consumers places items : ℕ) (g : Guard) (d0 d1 d2 d3 : ExerciseView) (p q : List Instruction) → are_buffer_sizes producers consumers places items ≡ true
    → d0 ≡ no_parts → d1 ≡ with_parts d0 (buffer_parts places g)
    → p ≡ buffer_program g (put places items) → d2 ≡ with_parts d1 (threads_of (codes "P") producers p)
    → q ≡ buffer_program g (take (producers * items / consumers)) → d3 ≡ with_parts d2 (threads_of (codes "C") consumers q)
    → IsMade d3 (lines_of_buffer producers consumers places items g)
made-here producers consumers places items g d0 d1 d2 d3 p q h none objects is-put some is-take all =
    let puts = buffer_program g (put places items) in
    let takes = buffer_program g (take (producers * items / consumers)) in
    let begun : d1 ≡ with_parts no_parts (buffer_parts places g) = then d0 d1 [] (buffer_parts places g) none objects in
    let half = ran_all d1 d2 (buffer_parts places g) (codes "P") producers p puts begun is-put some in
    let whole = ran_all d2 d3 (buffer_parts places g ++ threads_of (codes "P") producers puts) (codes "C") consumers q takes half is-take all in
    made d3 (lines_of_buffer producers consumers places items g) (layout producers consumers places items g) (sound producers consumers places items h g) (lines producers consumers places items h g)
    (whole ∙ ap (with_parts no_parts) (parts-are producers consumers places items h g))

pub finish-requires : goal.finish-requires
finish-requires c =
    (made-here c.args.producers c.args.consumers c.args.places c.args.items c.args.guard c.new-draft.result c.declare_objects.new.draft c.run_all.new.self c.run_all-2.new.self c.as_slice.result.now c.as_slice-2.result.now
    c.requires c.new-draft.ensures c.in_ok-declare_objects.ensures (c.as_slice.ensures.value ∙ c.in_ok-program.ensures) c.in_ok-run_all.ensures.added (c.as_slice-2.ensures.value ∙ c.in_ok-program-2.ensures)
    c.in_ok-run_all-2.ensures.added).well_formed

pub returns : goal.returns
returns c =
    finished c.run_all-2.new.self (lines_of_buffer c.args.producers c.args.consumers c.args.places c.args.items c.args.guard) c.finish.result
    (made-here c.args.producers c.args.consumers c.args.places c.args.items c.args.guard c.new-draft.result c.declare_objects.new.draft c.run_all.new.self c.run_all-2.new.self c.as_slice.result.now c.as_slice-2.result.now
    c.requires c.new-draft.ensures c.in_ok-declare_objects.ensures (c.as_slice.ensures.value ∙ c.in_ok-program.ensures) c.in_ok-run_all.ensures.added (c.as_slice-2.ensures.value ∙ c.in_ok-program-2.ensures)
    c.in_ok-run_all-2.ensures.added)
    c.finish.ensures
