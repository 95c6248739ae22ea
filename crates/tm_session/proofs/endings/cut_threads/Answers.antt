use Rattle.std.proofs.Common.{◌≡◌, ◌≤◌, ◌+◌, ◌-◌, ℕ, All, append-nil, [], ◌∷◌, ◌++◌, filter, length, slice_get, if◌then◌else◌, arith, ap, sym, ◌∙◌, subst}
use Rattle.std.specs.List.{range_with_len}
use Rattle.tm_text.specs.Exercises.{ExerciseView}
use Rattle.tm_timeline.specs.Rows.{IsProgramThread}
use Rattle.tm_replay.specs.Ends.{threads_where}
use Rattle.tm_session.specs.CutThreads.{test_of}
use Rattle.tm_session.proofs.Growing.{filter-range_more}
use Rattle.tm_session.proofs.Ending.{programs}
use Rattle.tm_session.proofs.endings.cut_threads.Goals as goal
use Rattle.tm_session.proofs.endings.cut_threads.Goals.{After-loop-thread, then-was_cut+in_ok-push, else-was_cut}

pub loop-thread-preserved : goal.loop-thread-preserved
loop-thread-preserved c =
    let items = c.args.joint.now.state.threads in
    let t = c.loop-thread.thread in
    let p = λ (n : ℕ). test_of c.args.cut (slice_get items n) in
    let last : 1 + (t - 1) ≡ t = omega (arith, c.loop-thread.auto.thread) in
    let next : t - 1 + 1 ≡ t + 1 - 1 = omega (arith, c.loop-thread.auto.thread) in
    let test : p t ≡ c.was_cut.result = ap (test_of c.args.cut) c.seat.ensures ∙ sym c.was_cut.ensures in
    let more = sym (ap (λ (n : ℕ). filter p (range_with_len 1 n)) next) ∙ filter-range_more p 1 (t - 1) t last in
    elim c.if-was_cut.branch [
      | then-was_cut+in_ok-push w ↦
          ap (λ q. q.items) w.threads-is ∙ w.in_ok-push.ensures.items ∙ ap (λ l. l ++ t ∷ []) c.loop-thread.invariant
          ∙ sym (more ∙ ap (λ b. filter p (range_with_len 1 (t - 1)) ++ (if b then t ∷ [] else [])) (test ∙ w.if-was_cut.true))
      | else-was_cut w ↦
          ap (λ q. q.items) w.threads-is ∙ c.loop-thread.invariant ∙ sym (append-nil (filter p (range_with_len 1 (t - 1))))
          ∙ sym (more ∙ ap (λ b. filter p (range_with_len 1 (t - 1)) ++ (if b then t ∷ [] else [])) (test ∙ w.if-was_cut.false))
    ]

whole : (c : After-loop-thread) → c.loop-thread.threads.items ≡ threads_where (test_of c.args.cut) (c.args.joint.now.state)
whole c =
    let j = c.args.joint.now.state in
    let high : c.loop-thread.thread ≤ c.threads-thread-end.result + 1 = c.loop-thread.auto.thread-end (omega arith) in
    let count : c.loop-thread.thread - 1 ≡ length j.threads - 1 =
    omega (arith, c.loop-thread-test.false, high, c.threads-thread-end.ensures.value, c.requires.sound.thread_count) in
    c.loop-thread.invariant ∙ ap (λ (n : ℕ). filter (λ t. test_of c.args.cut (slice_get j.threads t)) (range_with_len 1 n)) count

pub returns-clause-threads : goal.returns-clause-threads
returns-clause-threads c = whole (goal.at.returns-clause-threads c).After-loop-thread

pub returns-clause-known : goal.returns-clause-known
returns-clause-known c =
    subst (All (IsProgramThread c.args.exercise.now)) (sym (whole (goal.at.returns-clause-known c).After-loop-thread))
    (programs c.args.exercise.now (c.args.joint.now.state) (test_of c.args.cut) c.requires.sound)

pub seat-requires : goal.seat-requires
seat-requires c =
    let same : length c.args.joint.now.exercise.programs ≡ length c.args.exercise.now.programs = ap (λ (x : ExerciseView). length x.programs) c.requires.exercise in
    omega (arith, c.loop-thread-test.true, c.threads-thread-end.ensures.value, same)
