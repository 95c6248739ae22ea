use Rattle.std.proofs.Common.{List, sym, subst}
use Rattle.std.specs.Prelude.{IsPermutation}
use Rattle.tm_base.specs.declared.events.Entry.{Entry}
use Rattle.tm_text.specs.Exercises.{ExerciseView}
use Rattle.tm_order.specs.Interleavings.{AreInRange}
use Rattle.tm_trace.specs.Replaying.{IsFirstIllegal, Replays}
use Rattle.tm_trace.proofs.JudgingLemmas.{accepts, breaks, traceable-range}
use Rattle.tm_trace.proofs.judging.run_by_stamp.Goals as goal

pub first_illegal-requires : goal.first_illegal-requires
first_illegal-requires c =
    let x = c.args.trace.now.exercise in
    let order = c.in_ok-order.order.items in
    let permutation = subst (λ (l : List Entry). IsPermutation l order) c.entries.ensures.value c.in_ok-order.ensures.permutation in
    subst (λ (y : ExerciseView). AreInRange y c.as_slice.result.now) (sym c.exercise.ensures)
    (subst (AreInRange x) (sym c.as_slice.ensures.value) (traceable-range x c.args.trace.now.entries order permutation c.entries.ensures.traceable))

pub returns-in-None : goal.returns-in-None
returns-in-None c =
    let x = c.args.trace.now.exercise in
    let order = c.in_ok-order.order.items in
    let permutation = subst (λ (l : List Entry). IsPermutation l order) c.entries.ensures.value c.in_ok-order.ensures.permutation in
    let found = rw c.in-None.is at c.in_ok-first_illegal.ensures in
    let replays = subst (λ (y : ExerciseView). Replays y order) c.exercise.ensures (subst (Replays c.exercise.result.now) c.as_slice.ensures.value found) in
    accepts x c.args.trace.now.entries order permutation c.in_ok-order.ensures.by_stamp replays

pub returns-in-Some : goal.returns-in-Some
returns-in-Some c =
    let x = c.args.trace.now.exercise in
    let order = c.in_ok-order.order.items in
    let i = c.in-Some.field-0 in
    let permutation = subst (λ (l : List Entry). IsPermutation l order) c.entries.ensures.value c.in_ok-order.ensures.permutation in
    let found = rw c.in-Some.is at c.in_ok-first_illegal.ensures in
    let first = subst (λ (y : ExerciseView). IsFirstIllegal y order i) c.exercise.ensures (subst (λ (l : List Entry). IsFirstIllegal c.exercise.result.now l i) c.as_slice.ensures.value found) in
    breaks x c.args.trace.now.entries order permutation c.in_ok-order.ensures.by_stamp i first
