use Rattle.std.proofs.Common.{ap}
use Rattle.std.proofs.lemmas.Result.{IfOk-weaker}
use Rattle.tm_base.specs.declared.operations.Op.TheVariants as op
use Rattle.tm_base.specs.declared.events.Entry.{Entry}
use Rattle.tm_session.specs.AloneRuns.{Makes}
use Rattle.tm_session.proofs.MoveOnLemmas.{can_halt, halted-step}
use Rattle.tm_session.proofs.alone_runs.AloneRun.halt.Goals as goal

pub perform-requires-clause-can : goal.perform-requires-clause-can
perform-requires-clause-can c =
    can_halt c.args.exercise.now c.args.self.now.collector.joint.state c.requires.formed c.requires.sound c.args.object c.requires.early c.requires.waited

pub returns-clause-stops : goal.returns-clause-stops
returns-clause-stops c =
    let j = c.args.self.now.collector.joint.state in
    let P : Entry → Type 0 = λ e. Makes c.args.self.now 0 (record { object = c.args.object; op = op.Stop }) e c.perform.new.self in
    IfOk-weaker c.perform.result P _
    (λ e m. record {
      joint = m.joint;
      step = halted-step c.args.exercise.now j c.requires.formed c.requires.sound m.joint c.args.object e m.performs;
      recorded = m.recorded;
      stop = m.performs.does;
      object = m.performs.on;
      stops = ap (λ s. s.items) c.perform.ensures.stops;
      last = c.perform.ensures.last;
      draw = c.perform.ensures.draw;
    }) c.perform.ensures.makes
