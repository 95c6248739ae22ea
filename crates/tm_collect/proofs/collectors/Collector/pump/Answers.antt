use Rattle.std.proofs.Common.{◌≡◌, ◌-◌, ◌≤◌, List, length, All, sym, subst, arith}
use Rattle.tm_base.specs.declared.events.Entry.{Entry}
use Rattle.tm_collect.specs.Advancing.{IsInRange, StopsBy}
use Rattle.tm_collect.specs.declared.writers.Stop.{Stop}
use Rattle.tm_collect.specs.StoredCollectors.{collector_view}
use Rattle.tm_collect.proofs.CollectingLemmas.{ranges-settled, within-settled}
use Rattle.tm_collect.proofs.PumpingLemmas.{collects-whole, answers-whole, collects-illegal, count-illegal, answers-illegal, collects-short, lacks-space, none-kept, answers-of, lacks-of}
use Rattle.tm_collect.proofs.collectors.Collector.pump.Goals as goal

pub show-requires-clause-ranges : goal.show-requires-clause-ranges
show-requires-clause-ranges g c =
    let v = collector_view c.self.inside in
    subst (All (IsInRange v.exercise)) (sym c.shown.ensures.value) (ranges-settled v _ c.settle.new.self c.self.invariant c.settle.ensures.settles c.settle.ensures.arrived)

pub show-requires-clause-left : goal.show-requires-clause-left
show-requires-clause-left g c =
    let v = collector_view c.self.inside in
    subst (λ (es : List Entry). v.joint.applied ≤ length es) (sym c.shown.ensures.value) (within-settled v _ c.settle.new.self c.self.invariant c.settle.ensures.settles)

pub invariant_of-self : goal.invariant_of-self
invariant_of-self g c =
    let v = collector_view c.self.inside in
    let w = c.show.new.self in
    let kept = c.in-Ok.ensures.exercise in
    let same : w.exercise.now ≡ v.exercise = cc in
    collects-whole v _ c.settle.new.self c.self.invariant c.settle.ensures.settles c.settle.ensures.arrived w.exercise.now same w.joint c.shown.result.now c.shown.ensures.value (none-kept v.refusal c.if-is_some.ensures) c.if-self.false _ _
    c.in-Ok.ensures.shows c.in-Ok.ensures.whole _

pub invariant_of-self-in-Err-Illegal : goal.invariant_of-self-in-Err-Illegal
invariant_of-self-in-Err-Illegal g c =
    let v = collector_view c.self.inside in
    let w = c.show.new.self in
    let kept = c.in-Err-Illegal.ensures.exercise in
    let same : w.exercise.now ≡ v.exercise = cc in
    let stops = subst (λ (s : Stop). StopsBy v.exercise c.shown.result.now v.joint w.joint (record { failed = v.write_fault; faults = g.K.Sink.fault_count c.args.sink.now; written = g.K.Sink.written c.args.sink.now })
    (record { failed = w.write_fault; faults = g.K.Sink.fault_count c.show.new.sink; written = g.K.Sink.written c.show.new.sink }) s) c.in-Err-Illegal.field-0-is c.in-Err-Illegal.ensures.stops in
    collects-illegal v _ c.settle.new.self c.self.invariant c.settle.ensures.settles c.settle.ensures.arrived w.exercise.now same w.joint c.shown.result.now c.shown.ensures.value (none-kept v.refusal c.if-is_some.ensures) c.if-self.false _ _
    c.in-Err-Illegal.illegal stops _

pub overflow_sub-result-in-Err-Illegal : goal.overflow_sub-result-in-Err-Illegal
overflow_sub-result-in-Err-Illegal g c =
    let v = collector_view c.self.inside in
    let w = c.show.new.self in
    let kept = c.in-Err-Illegal.ensures.exercise in
    let same : w.exercise.now ≡ v.exercise = cc in
    let stops = subst (λ (s : Stop). StopsBy v.exercise c.shown.result.now v.joint w.joint (record { failed = v.write_fault; faults = g.K.Sink.fault_count c.args.sink.now; written = g.K.Sink.written c.args.sink.now })
    (record { failed = w.write_fault; faults = g.K.Sink.fault_count c.show.new.sink; written = g.K.Sink.written c.show.new.sink }) s) c.in-Err-Illegal.field-0-is c.in-Err-Illegal.ensures.stops in
    let rises = count-illegal v _ c.settle.new.self c.self.invariant c.settle.ensures.settles c.settle.ensures.arrived w.exercise.now same w.joint c.shown.result.now c.shown.ensures.value (none-kept v.refusal c.if-is_some.ensures) c.if-self.false _ _
    c.in-Err-Illegal.illegal stops in
    omega (arith, rises, c.applied-before.ensures.value, c.applied-in-Err-Illegal.ensures.value)

pub invariant_of-self-in-Err-NoMemory : goal.invariant_of-self-in-Err-NoMemory
invariant_of-self-in-Err-NoMemory g c =
    let v = collector_view c.self.inside in
    let w = c.show.new.self in
    let kept = c.in-Err-NoMemory.ensures.exercise in
    let same : w.exercise.now ≡ v.exercise = cc in
    let stops = subst (λ (s : Stop). StopsBy v.exercise c.shown.result.now v.joint w.joint (record { failed = v.write_fault; faults = g.K.Sink.fault_count c.args.sink.now; written = g.K.Sink.written c.args.sink.now })
    (record { failed = w.write_fault; faults = g.K.Sink.fault_count c.show.new.sink; written = g.K.Sink.written c.show.new.sink }) s) c.in-Err-NoMemory.field-0-is c.in-Err-NoMemory.ensures.stops in
    collects-short v _ c.settle.new.self c.self.invariant c.settle.ensures.settles c.settle.ensures.arrived w.exercise.now same w.joint c.shown.result.now c.shown.ensures.value (none-kept v.refusal c.if-is_some.ensures) c.if-self.false _ _
    stops _

pub returns-in-Ok-clause-answers : goal.returns-in-Ok-clause-answers
returns-in-Ok-clause-answers g c =
    let v = collector_view c.self.inside in
    let w = c.show.new.self in
    let kept = c.in-Ok.ensures.exercise in
    let same : w.exercise.now ≡ v.exercise = cc in
    let number : c.applied.result - c.applied-before.result ≡ w.joint.applied - v.joint.applied = omega (arith, c.applied.ensures.value, c.applied-before.ensures.value) in
    answers-of v _ _ _ _ _ c.self.view_is _
    (answers-whole v _ c.settle.new.self c.self.invariant c.settle.ensures.settles c.settle.ensures.arrived w.exercise.now same w.joint c.shown.result.now c.shown.ensures.value (none-kept v.refusal c.if-is_some.ensures) c.if-self.false _ _
    c.in-Ok.ensures.shows c.in-Ok.ensures.whole _ _ number)

pub returns-in-Err-Illegal-clause-answers : goal.returns-in-Err-Illegal-clause-answers
returns-in-Err-Illegal-clause-answers g c =
    let v = collector_view c.self.inside in
    let w = c.show.new.self in
    let kept = c.in-Err-Illegal.ensures.exercise in
    let same : w.exercise.now ≡ v.exercise = cc in
    let stops = subst (λ (s : Stop). StopsBy v.exercise c.shown.result.now v.joint w.joint (record { failed = v.write_fault; faults = g.K.Sink.fault_count c.args.sink.now; written = g.K.Sink.written c.args.sink.now })
    (record { failed = w.write_fault; faults = g.K.Sink.fault_count c.show.new.sink; written = g.K.Sink.written c.show.new.sink }) s) c.in-Err-Illegal.field-0-is c.in-Err-Illegal.ensures.stops in
    let number : c.applied-in-Err-Illegal.result - c.applied-before.result ≡ w.joint.applied - v.joint.applied = omega (arith, c.applied-in-Err-Illegal.ensures.value, c.applied-before.ensures.value) in
    answers-of v _ _ _ _ _ c.self.view_is _
    (answers-illegal v _ c.settle.new.self c.self.invariant c.settle.ensures.settles c.settle.ensures.arrived w.exercise.now same w.joint c.shown.result.now c.shown.ensures.value (none-kept v.refusal c.if-is_some.ensures) c.if-self.false _ _
    c.in-Err-Illegal.illegal stops _ _ number)

pub returns-in-Err-NoMemory-clause-memory : goal.returns-in-Err-NoMemory-clause-memory
returns-in-Err-NoMemory-clause-memory g c =
    let v = collector_view c.self.inside in
    let w = c.show.new.self in
    let kept = c.in-Err-NoMemory.ensures.exercise in
    let same : w.exercise.now ≡ v.exercise = cc in
    let stops = subst (λ (s : Stop). StopsBy v.exercise c.shown.result.now v.joint w.joint (record { failed = v.write_fault; faults = g.K.Sink.fault_count c.args.sink.now; written = g.K.Sink.written c.args.sink.now })
    (record { failed = w.write_fault; faults = g.K.Sink.fault_count c.show.new.sink; written = g.K.Sink.written c.show.new.sink }) s) c.in-Err-NoMemory.field-0-is c.in-Err-NoMemory.ensures.stops in
    lacks-of v _ _ _ _ _ c.self.view_is
    (lacks-space v _ c.settle.new.self c.self.invariant c.settle.ensures.settles c.settle.ensures.arrived w.exercise.now same w.joint c.shown.result.now c.shown.ensures.value (none-kept v.refusal c.if-is_some.ensures) c.if-self.false _ _
    stops _)
