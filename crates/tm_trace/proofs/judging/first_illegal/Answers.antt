use Rattle.std.proofs.Common.{◌<◌, ◌+◌, ◌∙◌, length, ap, arith}
use Rattle.tm_trace.proofs.ReplayingLemmas.{illegal-here, range-at, replayed-next}
use Rattle.tm_trace.proofs.judging.first_illegal.Goals as goal

pub apply-requires-clause-thread : goal.apply-requires-clause-thread
apply-requires-clause-thread c =
    let within : c.loop-entry.entry-index < length c.args.events.now = omega arith in
    (range-at _ c.args.events.now c.loop-entry.entry-index _ _ c.loop-entry.invariant.exercise within c.requires).0

pub apply-requires-clause-object : goal.apply-requires-clause-object
apply-requires-clause-object c =
    let within : c.loop-entry.entry-index < length c.args.events.now = omega arith in
    (range-at _ c.args.events.now c.loop-entry.entry-index _ _ c.loop-entry.invariant.exercise within c.requires).1

pub returns-in-Err : goal.returns-in-Err
returns-in-Err c =
    let within : c.loop-entry.entry-index < length c.args.events.now = omega arith in
    let old = c.loop-entry.invariant in
    illegal-here c.args.exercise.now c.args.events.now c.loop-entry.entry-index _ _ old.exercise within _ old.run c.in-Err.illegal c.in-Err.ensures.cause

pub loop-entry-preserved : goal.loop-entry-preserved
loop-entry-preserved c =
    let within : c.loop-entry.entry-index < length c.args.events.now = omega arith in
    let old = c.loop-entry.invariant in
    record {
      exercise = c.in_default.ensures.exercise ∙ old.exercise;
      run = replayed-next c.args.exercise.now c.args.events.now c.loop-entry.entry-index _ _ old.exercise within _ old.run c.apply.new.self.state c.in_default.ensures.step;
      applied = c.in_default.ensures.counted ∙ ap (λ n. n + 1) old.applied;
    }
