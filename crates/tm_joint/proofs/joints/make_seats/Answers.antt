use Rattle.std.proofs.Common.{◌≡◌, ◌+◌, suc, [], ◌∷◌, ◌++◌, map, take, arith, ap, sym, ◌∙◌}
use Rattle.std.proofs.lemmas.Option.{get_or_from_slice_get}
use Rattle.tm_replay.specs.declared.phases.Phase.TheVariants as phase
use Rattle.tm_text.specs.Exercises.{instructions_of}
use Rattle.tm_replay.specs.JointStates.{first_thread_state, unbegun}
use Rattle.tm_programs.specs.Programs.{Over}
use Rattle.tm_replay.proofs.SliceLemmas.{found_at}
use Rattle.tm_joint.proofs.Making.{map-take_more}
use Rattle.tm_joint.proofs.joints.make_seats.Goals as goal

pub loop-thread-preserved : goal.loop-thread-preserved
loop-thread-preserved c =
    let x = c.args.exercise.now in
    let t = c.loop-thread.thread in
    let p = found_at x.programs t (omega (arith, c.loop-thread-test.true, c.threads-thread-end.ensures.value)) in
    let next : t + 1 ≡ suc t = omega arith in
    let v = c.in_ok-make.field-0 in
    let made : v ≡ unbegun p.0 = c.in_ok-make.ensures ∙ ap (λ n. unbegun (instructions_of x n)) next ∙ ap unbegun (get_or_from_slice_get x.programs t p.0 [] p.1) in
    c.in_ok-push-2.ensures.items ∙ ap (λ l. l ++ v ∷ []) c.loop-thread.invariant
    ∙ ap (λ s. first_thread_state phase.Main Over ∷ (map unbegun (take t x.programs) ++ s ∷ [])) made
    ∙ ap (λ l. first_thread_state phase.Main Over ∷ l) (sym (map-take_more unbegun x.programs t p.0 p.1))
