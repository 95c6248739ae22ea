use Rattle.std.proofs.Common.{◌≡◌, ◌≤◌, ℕ, Some, length, slice_get, arith, sym, ap, ◌∙◌, subst}
use Rattle.std.proofs.lemmas.Result.{IfOk-weaker}
use Rattle.tm_base.specs.declared.events.Entry.{Entry}
use Rattle.tm_text.specs.Exercises.{ExerciseView}
use Rattle.tm_replay.specs.JointSteps.{MayIn}
use Rattle.tm_replay.specs.Bars.{bars_of}
use Rattle.tm_joint.specs.Joints.{JointView}
use Rattle.tm_session.specs.AloneRuns.{Makes}
use Rattle.tm_session.specs.Choices.{chosen_thread}
use Rattle.tm_session.proofs.ChoicesLemmas.{bars-count, some-chosen}
use Rattle.tm_session.proofs.MoveOnLemmas.{IsChosen, chosen, chosen-goes, chosen-asks, chosen-performs, chosen-step}
use Rattle.tm_session.proofs.alone_runs.AloneRun.move_on.Goals as goal
use Rattle.tm_session.proofs.alone_runs.AloneRun.move_on.Goals.{In-Some, After-seat}

chose : (c : In-Some) → chosen_thread c.args.rules.schedule (bars_of c.args.self.now.collector.joint.state) c.args.self.now.last c.draw_after-draw.result ≡ Some c.in-Some.thread
chose c =
    ap (λ (v : JointView). chosen_thread c.args.rules.schedule (bars_of v.state) c.args.self.now.last c.draw_after-draw.result) (sym c.joint-joint.ensures.value)
    ∙ sym c.choose.ensures ∙ c.in-Some.is

is_chosen : (c : In-Some) → IsChosen c.args.exercise.now c.args.self.now.collector.joint.state c.requires.running.formed c.requires.running.sound c.in-Some.thread
is_chosen c =
    chosen c.args.exercise.now c.args.self.now.collector.joint.state c.requires.running.formed c.requires.running.sound c.args.rules.schedule c.args.self.now.last c.draw_after-draw.result
    c.in-Some.thread (chose c)

seat_of : (c : After-seat) → slice_get c.args.self.now.collector.joint.state.threads c.in-Some.thread ≡ Some c.seat.result.now
seat_of c = ap (λ (v : JointView). slice_get v.state.threads c.in-Some.thread) (sym c.joint-joint.ensures.value) ∙ c.seat.ensures

pub unreachable-requires : goal.unreachable-requires
unreachable-requires c =
    let j = c.args.self.now.collector.joint.state in
    let low : c.args.self.now.last ≤ length (bars_of j) = omega (arith, bars-count j, c.requires.running.sound.thread_count, c.requires.running.last) in
    some-chosen c.args.rules.schedule (bars_of j) c.args.self.now.last c.draw_after-draw.result low c.requires.going c.requires.free
    (ap (λ (v : JointView). chosen_thread c.args.rules.schedule (bars_of v.state) c.args.self.now.last c.draw_after-draw.result) (sym c.joint-joint.ensures.value)
    ∙ sym c.choose.ensures ∙ c.in_default.is)

pub seat-requires : goal.seat-requires
seat-requires c =
    let same : length c.joint-joint.result.now.exercise.programs ≡ length c.args.exercise.now.programs =
    ap (λ (v : JointView). length v.exercise.programs) c.joint-joint.ensures.value ∙ ap (λ (x : ExerciseView). length x.programs) c.requires.running.exercise in
    omega (arith, (is_chosen (goal.at.seat-requires c).In-Some).known, same)

pub own-requires-clause-program : goal.own-requires-clause-program
own-requires-clause-program c = (is_chosen (goal.at.own-requires-clause-program c).In-Some).program

pub own-requires-clause-known : goal.own-requires-clause-known
own-requires-clause-known c = (is_chosen (goal.at.own-requires-clause-known c).In-Some).known

pub of-next_call-requires-clause-goes_on : goal.of-next_call-requires-clause-goes_on
of-next_call-requires-clause-goes_on c =
    chosen-goes c.args.exercise.now c.args.self.now.collector.joint.state c.requires.running.formed c.requires.running.sound c.in-Some.thread c.seat.result.now
    (is_chosen (goal.at.of-next_call-requires-clause-goes_on c).In-Some) (seat_of (goal.at.of-next_call-requires-clause-goes_on c).After-seat)

pub of-next_call-requires-clause-asks : goal.of-next_call-requires-clause-asks
of-next_call-requires-clause-asks c =
    chosen-asks c.args.exercise.now c.args.self.now.collector.joint.state c.requires.running.formed c.requires.running.sound c.in-Some.thread c.seat.result.now
    (is_chosen (goal.at.of-next_call-requires-clause-asks c).In-Some) (seat_of (goal.at.of-next_call-requires-clause-asks c).After-seat)

pub perform-requires-clause-can : goal.perform-requires-clause-can
perform-requires-clause-can c =
    let s = c.seat.result.now in
    let w = c.of-next_call.result in
    chosen-performs c.args.exercise.now c.args.self.now.collector.joint.state c.requires.running.formed c.requires.running.sound c.in-Some.thread s
    (is_chosen (goal.at.perform-requires-clause-can c).In-Some) (seat_of (goal.at.perform-requires-clause-can c).After-seat) w
    (subst (λ (own : ℕ). MayIn own s.phase s.rest w.object w.op) c.own.ensures c.of-next_call.ensures.may) c.requires.running.early

pub returns-clause-moves : goal.returns-clause-moves
returns-clause-moves c =
    let x = c.args.exercise.now in
    let j = c.args.self.now.collector.joint.state in
    let one = (goal.at.returns-clause-moves c).In-Some in
    let s = c.seat.result.now in
    let w = c.of-next_call.result in
    let P : Entry → Type 0 = λ e. Makes _ c.in-Some.thread w e c.perform.new.self in
    let may = subst (λ (own : ℕ). MayIn own s.phase s.rest w.object w.op) c.own.ensures c.of-next_call.ensures.may in
    IfOk-weaker c.perform.result P _
    (λ e m.
    let moved = chosen-step x j c.requires.running.formed c.requires.running.sound c.in-Some.thread s (is_chosen one) (seat_of (goal.at.returns-clause-moves c).After-seat)
    w may m.joint e m.performs c.args.rules.limit c.of-next_call.ensures.limit in
    record {
      joint = m.joint;
      step = moved.0;
      recorded = m.recorded;
      draw = c.perform.ensures.draw ∙ c.draw_after-draw.ensures;
      chosen = ap (chosen_thread c.args.rules.schedule (bars_of j) c.args.self.now.last) c.perform.ensures.draw ∙ chose one ∙ ap Some (sym m.performs.by);
      limit = moved.1;
      stops = ap (λ q. q.items) c.perform.ensures.stops;
      last = c.perform.ensures.last ∙ sym m.performs.by;
    }) c.perform.ensures.makes
