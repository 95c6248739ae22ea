use Rattle.std.proofs.Common.{Some, ap, sym, ◌∙◌}
use Rattle.tm_base.specs.declared.operations.Op.TheVariants as op
use Rattle.tm_ring.specs.Rings.{OutboxView}
use Rattle.tm_worker.proofs.CallsOfLogs.{own, none_passes, none_keeps, finish_none, finish_fault_at, sent_passes, sent_keeps, sent_log, only_here, own_waits, object_is, resumed_free}
use Rattle.tm_worker.proofs.logs.try_finish.Goals as goal

pub try_finish-requires-clause-idle : goal.try_finish-requires-clause-idle
try_finish-requires-clause-idle c =
    let within = c.requires.keeps.there c.args.object c.requires.here in
    (own c.args.shared.now c.args.passes.now.items c.args.ticket.now c.args.outbox.now c.args.object c.index-shared-k.result c.index_mut.result.now
    c.requires.suits c.requires.keeps within c.index-shared-k.is c.index_mut.ensures.value).idle

pub try_finish-requires-clause-one : goal.try_finish-requires-clause-one
try_finish-requires-clause-one c =
    let within = c.requires.keeps.there c.args.object c.requires.here in
    sym (own c.args.shared.now c.args.passes.now.items c.args.ticket.now c.args.outbox.now c.args.object c.index-shared-k.result c.index_mut.result.now
    c.requires.suits c.requires.keeps within c.index-shared-k.is c.index_mut.ensures.value).number

pub try_finish-requires-clause-here : goal.try_finish-requires-clause-here
try_finish-requires-clause-here c =
    let within = c.requires.keeps.there c.args.object c.requires.here in
    c.requires.here ∙ ap Some (sym (object_is c.args.shared.now c.args.passes.now.items c.args.ticket.now c.args.outbox.now c.args.object c.index-shared-k.result c.index_mut.result.now
    c.requires.suits c.requires.keeps within c.index-shared-k.is c.index_mut.ensures.value))

pub try_finish-requires-clause-waits : goal.try_finish-requires-clause-waits
try_finish-requires-clause-waits c =
    let within = c.requires.keeps.there c.args.object c.requires.here in
    own_waits c.args.shared.now c.args.passes.now.items c.args.ticket.now c.args.outbox.now c.args.object c.index-shared-k.result c.index_mut.result.now
    c.requires.suits c.requires.keeps within c.index-shared-k.is c.index_mut.ensures.value c.requires.here

pub try_finish-requires-clause-clock : goal.try_finish-requires-clause-clock
try_finish-requires-clause-clock c =
    let within = c.requires.keeps.there c.args.object c.requires.here in
    (own c.args.shared.now c.args.passes.now.items c.args.ticket.now c.args.outbox.now c.args.object c.index-shared-k.result c.index_mut.result.now
    c.requires.suits c.requires.keeps within c.index-shared-k.is c.index_mut.ensures.value).clock c.requires.here

pub returns-in-Ok-clause-keeps : goal.returns-in-Ok-clause-keeps
returns-in-Ok-clause-keeps c =
    let within = c.requires.keeps.there c.args.object c.requires.here in
    sent_keeps c.args.shared.now c.args.passes.now.items c.args.ticket.now c.args.outbox.now c.args.object c.index-shared-k.result c.index_mut.result.now
    c.requires.suits c.requires.keeps within c.index-shared-k.is c.index_mut.ensures.value c.try_finish.new.pass c.try_finish.new.ticket op.Resume c.in-Ok.resume
    c.in-Ok.ensures.turn c.in-Ok.ensures.added c.send.new.self.sent (ap (λ (x : OutboxView). x.sent) c.send.ensures.sent) (only_here c.args.ticket.now c.args.object c.requires.here)

pub returns-in-Ok-clause-passes : goal.returns-in-Ok-clause-passes
returns-in-Ok-clause-passes c =
    let within = c.requires.keeps.there c.args.object c.requires.here in
    sent_passes c.args.shared.now c.args.passes.now.items c.args.ticket.now c.args.outbox.now c.args.object c.index-shared-k.result c.index_mut.result.now
    c.requires.suits c.requires.keeps within c.index-shared-k.is c.index_mut.ensures.value c.try_finish.new.pass c.try_finish.new.ticket op.Resume c.in-Ok.resume
    c.in-Ok.ensures.turn c.in-Ok.ensures.added

pub returns-in-Ok-clause-sent : goal.returns-in-Ok-clause-sent
returns-in-Ok-clause-sent c =
    let within = c.requires.keeps.there c.args.object c.requires.here in
    sent_log c.args.shared.now c.args.passes.now.items c.args.ticket.now c.args.outbox.now c.args.object c.index-shared-k.result c.index_mut.result.now
    c.requires.suits c.requires.keeps within c.index-shared-k.is c.index_mut.ensures.value c.try_finish.new.pass c.try_finish.new.ticket op.Resume c.in-Ok.resume
    c.in-Ok.ensures.turn c.in-Ok.ensures.added c.send.new.self (only_here c.args.ticket.now c.args.object c.requires.here) (ap (λ (x : OutboxView). x.sent) c.send.ensures.sent) (ap (λ (x : OutboxView). x.ring) c.send.ensures.sent) c.send.ensures.spare

pub returns-in-Err-clause-keeps : goal.returns-in-Err-clause-keeps
returns-in-Err-clause-keeps c =
    let within = c.requires.keeps.there c.args.object c.requires.here in
    none_keeps c.args.shared.now c.args.passes.now.items c.args.ticket.now c.args.outbox.now c.args.object c.index-shared-k.result c.index_mut.result.now
    c.requires.suits c.requires.keeps within c.index-shared-k.is c.index_mut.ensures.value c.try_finish.new.pass c.try_finish.new.ticket
    (finish_none c.index-shared-k.result.label c.index_mut.result.now c.try_finish.new.pass c.in-Err.fault c.in-Err.ensures.fault) c.in-Err.ensures.same_ticket

pub returns-in-Err-clause-passes : goal.returns-in-Err-clause-passes
returns-in-Err-clause-passes c =
    let within = c.requires.keeps.there c.args.object c.requires.here in
    none_passes c.args.shared.now c.args.passes.now.items c.args.ticket.now c.args.outbox.now c.args.object c.index-shared-k.result c.index_mut.result.now
    c.requires.suits c.requires.keeps within c.index-shared-k.is c.index_mut.ensures.value c.try_finish.new.pass c.try_finish.new.ticket
    (finish_none c.index-shared-k.result.label c.index_mut.result.now c.try_finish.new.pass c.in-Err.fault c.in-Err.ensures.fault)

pub returns-in-Err-clause-fault : goal.returns-in-Err-clause-fault
returns-in-Err-clause-fault c =
    let within = c.requires.keeps.there c.args.object c.requires.here in
    finish_fault_at c.args.shared.now c.args.passes.now.items c.args.ticket.now c.args.outbox.now c.args.object c.index-shared-k.result c.index_mut.result.now
    c.requires.suits c.requires.keeps within c.index-shared-k.is c.index_mut.ensures.value c.try_finish.new.pass c.try_finish.new.ticket c.in-Err.fault c.args.outbox.now
    c.in-Err.ensures.fault

pub returns-in-Ok-clause-free : goal.returns-in-Ok-clause-free
returns-in-Ok-clause-free c =
    resumed_free c.index-shared-k.result.label c.index_mut.result.now c.try_finish.new.pass c.args.ticket.now c.try_finish.new.ticket c.in-Ok.resume c.in-Ok.ensures.turn c.in-Ok.ensures.added
