use Rattle.std.proofs.Common.{◌≡◌, ◌∷◌, List, ℕ, true, slice_get, sym, ap, ◌∙◌, subst}
use Rattle.std.proofs.lemmas.Result.{IfOk-weaker}
use Rattle.tm_base.specs.declared.events.Entry.{Entry}
use Rattle.tm_replay.specs.JointStates.{JointState}
use Rattle.tm_replay.specs.SoundStates.{IsSoundJoint}
use Rattle.tm_replay.specs.Bars.{bars_of, is_stuck, has_waiter}
use Rattle.tm_collect.specs.Collectors.{CollectorView}
use Rattle.tm_session.specs.declared.alone_runs.AloneRun.{AloneRun}
use Rattle.tm_session.specs.AloneRuns.{GoesOnBy, MovesOn, Stops, run_state_at, run_state_of}
use Rattle.tm_session.specs.Records.{IsEarly}
use Rattle.tm_session.specs.Turns.{AreWaited, GoesBy}
use Rattle.tm_session.proofs.Stopping.{due-waited, none-due}
use Rattle.tm_session.proofs.Turning.{moves, halts}
use Rattle.tm_session.proofs.RecordsLemmas.{recorded-same}
use Rattle.tm_session.proofs.alone_runs.AloneRun.go.Goals as goal

pub halt-requires : goal.halt-requires
halt-requires c =
    let x = c.args.exercise.now in
    let old = c.args.self.now in
    let mid = c.due.new.self in
    let j = old.collector.joint.state in
    let due = rw c.in-Some.is at c.in_ok-object.ensures.due in
    let same : mid.collector.joint.state ≡ j = ap (λ (v : CollectorView). v.joint.state) c.in_ok-object.ensures.collector in
    let waited : AreWaited j (c.in-Some.object ∷ mid.stops.items) =
    subst (AreWaited j) due (due-waited j old.stops.items c.requires.running.waited) in
    record {
      formed = c.requires.running.formed;
      sound = subst (IsSoundJoint x) (sym same) c.requires.running.sound;
      early = subst IsEarly (sym same) c.requires.running.early;
      waited = subst (λ (k : JointState). has_waiter (slice_get k.objects c.in-Some.object) ≡ true) (sym same) waited.0;
      recorded = recorded-same old mid c.in_ok-object.ensures.collector c.in_ok-object.ensures.books c.in_ok-object.ensures.tickets c.requires.running.recorded;
    }

pub move_on-requires-clause-running : goal.move_on-requires-clause-running
move_on-requires-clause-running c =
    let x = c.args.exercise.now in
    let old = c.args.self.now in
    let mid = c.due.new.self in
    let same : mid.collector.joint.state ≡ old.collector.joint.state = ap (λ (v : CollectorView). v.joint.state) c.in_ok-object.ensures.collector in
    let due = rw c.in-None.is at c.in_ok-object.ensures.due in
    record {
      exercise = ap (λ (v : CollectorView). v.joint.exercise) c.in_ok-object.ensures.collector ∙ c.requires.running.exercise;
      formed = c.requires.running.formed;
      sound = subst (IsSoundJoint x) (sym same) c.requires.running.sound;
      early = subst IsEarly (sym same) c.requires.running.early;
      last = rw c.in_ok-object.ensures.last c.requires.running.last;
      waited = subst (AreWaited mid.collector.joint.state) (sym due.1) tt;
      recorded = recorded-same old mid c.in_ok-object.ensures.collector c.in_ok-object.ensures.books c.in_ok-object.ensures.tickets c.requires.running.recorded;
    }

pub move_on-requires-clause-free : goal.move_on-requires-clause-free
move_on-requires-clause-free c =
    let old = c.args.self.now.collector.joint.state in
    let due = rw c.in-None.is at c.in_ok-object.ensures.due in
    ap (λ (v : CollectorView). is_stuck (bars_of v.joint.state)) c.in_ok-object.ensures.collector
    ∙ (none-due c.args.exercise.now old c.args.self.now.stops.items c.requires.running.sound due.0).0

pub returns-in-None-clause-goes : goal.returns-in-None-clause-goes
returns-in-None-clause-goes c =
    let x = c.args.exercise.now in
    let old = c.args.self.now in
    let mid = c.due.new.self in
    let new = c.move_on.new.self in
    let due = rw c.in-None.is at c.in_ok-object.ensures.due in
    let joint = ap (λ (v : CollectorView). v.joint.state) c.in_ok-object.ensures.collector in
    let P : Entry → Type 0 = λ e. MovesOn x c.args.rules mid e new in
    let Q : Entry → Type 0 = λ e. GoesOnBy x c.args.rules old e new in
    IfOk-weaker c.move_on.result P Q
    (λ e m. record {
      joint = m.joint;
      goes = subst (λ (stops : List ℕ). GoesBy x c.args.rules (run_state_of old) stops e (run_state_at m.joint new)) (sym due.0)
          (moves x c.args.rules (run_state_of old) mid new e joint c.in_ok-object.ensures.last c.in_ok-object.ensures.draw due.1 m);
      recorded = rw (sym c.in_ok-object.ensures.collector) m.recorded;
    })
    c.move_on.ensures.moves

pub returns-in-Some-clause-goes : goal.returns-in-Some-clause-goes
returns-in-Some-clause-goes c =
    let x = c.args.exercise.now in
    let old = c.args.self.now in
    let mid = c.due.new.self in
    let new = c.halt.new.self in
    let due = rw c.in-Some.is at c.in_ok-object.ensures.due in
    let joint = ap (λ (v : CollectorView). v.joint.state) c.in_ok-object.ensures.collector in
    let P : Entry → Type 0 = λ e. Stops x mid c.in-Some.object e new in
    let Q : Entry → Type 0 = λ e. GoesOnBy x c.args.rules old e new in
    IfOk-weaker c.halt.result P Q
    (λ e s. record {
      joint = s.joint;
      goes = subst (λ (stops : List ℕ). GoesBy x c.args.rules (run_state_of old) stops e (run_state_at s.joint new)) (sym due)
          (halts x (run_state_of old) mid new c.in-Some.object e joint c.in_ok-object.ensures.last c.in_ok-object.ensures.draw s);
      recorded = rw (sym c.in_ok-object.ensures.collector) s.recorded;
    })
    c.halt.ensures.stops
