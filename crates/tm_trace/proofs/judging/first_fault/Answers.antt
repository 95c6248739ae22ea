use Rattle.std.proofs.Common.{sym, subst}
use Rattle.tm_text.specs.Exercises.{ExerciseView}
use Rattle.tm_order.specs.Interleavings.{AreInRange}
use Rattle.tm_trace.specs.Replaying.{Replays}
use Rattle.tm_trace.proofs.JudgingLemmas.{replays-legal}
use Rattle.tm_trace.proofs.MergingLemmas.{whole-range, whole-shown}
use Rattle.tm_trace.proofs.judging.first_fault.Goals as goal

pub first_illegal-requires : goal.first_illegal-requires
first_illegal-requires c =
    let x = c.args.trace.now.exercise in
    subst (λ (y : ExerciseView). AreInRange y c.shown.result.now) (sym c.exercise.ensures)
    (subst (AreInRange x) (sym c.shown.ensures.value) (whole-range x c.args.trace.now.entries c.in-Ok.merger c.in-Ok.ensures.merged))

pub unreachable-requires : goal.unreachable-requires
unreachable-requires c =
    let x = c.args.trace.now.exercise in
    let es = c.args.trace.now.entries in
    let v = c.in-Ok.merger in
    let found = rw c.in-Ok-None.field-0-is at c.in-Ok-None.ensures in
    let replays = subst (λ (y : ExerciseView). Replays y v.shown) c.exercise.ensures (subst (Replays c.exercise.result.now) c.shown.ensures.value found) in
    c.requires (replays-legal x es v.shown (whole-shown x es v c.in-Ok.ensures.merged) replays)
