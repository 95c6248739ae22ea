use Rattle.std.proofs.Common.{ap, sym}
use Rattle.std.proofs.lemmas.Option.{slice_get_within}
use Rattle.tm_ring.specs.Rings.{OutboxView}
use Rattle.tm_worker.proofs.CallsOfLogs.{own, may, none_passes, none_keeps, begin_none, begin_fault, sent_passes, sent_keeps, sent_log, nowhere}
use Rattle.tm_worker.proofs.logs.try_begin.Goals as goal

pub try_begin-requires-clause-idle : goal.try_begin-requires-clause-idle
try_begin-requires-clause-idle c =
    let within = slice_get_within c.args.passes.now.items c.args.object c.requires.can.pass c.requires.can.found in
    (own c.args.shared.now c.args.passes.now.items c.args.ticket.now c.args.outbox.now c.args.object c.index-shared-k.result c.index_mut.result.now
    c.requires.suits c.requires.keeps within c.index-shared-k.is c.index_mut.ensures.value).idle

pub try_begin-requires-clause-one : goal.try_begin-requires-clause-one
try_begin-requires-clause-one c =
    let within = slice_get_within c.args.passes.now.items c.args.object c.requires.can.pass c.requires.can.found in
    sym (own c.args.shared.now c.args.passes.now.items c.args.ticket.now c.args.outbox.now c.args.object c.index-shared-k.result c.index_mut.result.now
    c.requires.suits c.requires.keeps within c.index-shared-k.is c.index_mut.ensures.value).number

pub try_begin-requires-clause-may : goal.try_begin-requires-clause-may
try_begin-requires-clause-may c =
    let within = slice_get_within c.args.passes.now.items c.args.object c.requires.can.pass c.requires.can.found in
    may c.args.shared.now c.args.passes.now.items c.args.ticket.now c.args.outbox.now c.args.object c.index-shared-k.result c.index_mut.result.now
    c.requires.suits c.requires.keeps within c.index-shared-k.is c.index_mut.ensures.value c.args.op c.requires.can

pub returns-in-Ok-clause-keeps : goal.returns-in-Ok-clause-keeps
returns-in-Ok-clause-keeps c =
    let within = slice_get_within c.args.passes.now.items c.args.object c.requires.can.pass c.requires.can.found in
    sent_keeps c.args.shared.now c.args.passes.now.items c.args.ticket.now c.args.outbox.now c.args.object c.index-shared-k.result c.index_mut.result.now
    c.requires.suits c.requires.keeps within c.index-shared-k.is c.index_mut.ensures.value c.try_begin.new.pass c.try_begin.new.ticket c.args.op c.in-Ok.entry
    c.in-Ok.ensures.turn c.in-Ok.ensures.added c.send.new.self.sent (ap (λ (x : OutboxView). x.sent) c.send.ensures.sent) (nowhere c.args.ticket.now c.requires.can.free c.args.object)

pub returns-in-Ok-clause-passes : goal.returns-in-Ok-clause-passes
returns-in-Ok-clause-passes c =
    let within = slice_get_within c.args.passes.now.items c.args.object c.requires.can.pass c.requires.can.found in
    sent_passes c.args.shared.now c.args.passes.now.items c.args.ticket.now c.args.outbox.now c.args.object c.index-shared-k.result c.index_mut.result.now
    c.requires.suits c.requires.keeps within c.index-shared-k.is c.index_mut.ensures.value c.try_begin.new.pass c.try_begin.new.ticket c.args.op c.in-Ok.entry
    c.in-Ok.ensures.turn c.in-Ok.ensures.added

pub returns-in-Ok-clause-sent : goal.returns-in-Ok-clause-sent
returns-in-Ok-clause-sent c =
    let within = slice_get_within c.args.passes.now.items c.args.object c.requires.can.pass c.requires.can.found in
    sent_log c.args.shared.now c.args.passes.now.items c.args.ticket.now c.args.outbox.now c.args.object c.index-shared-k.result c.index_mut.result.now
    c.requires.suits c.requires.keeps within c.index-shared-k.is c.index_mut.ensures.value c.try_begin.new.pass c.try_begin.new.ticket c.args.op c.in-Ok.entry
    c.in-Ok.ensures.turn c.in-Ok.ensures.added c.send.new.self (nowhere c.args.ticket.now c.requires.can.free c.args.object) (ap (λ (x : OutboxView). x.sent) c.send.ensures.sent) (ap (λ (x : OutboxView). x.ring) c.send.ensures.sent) c.send.ensures.spare

pub returns-in-Err-clause-keeps : goal.returns-in-Err-clause-keeps
returns-in-Err-clause-keeps c =
    let within = slice_get_within c.args.passes.now.items c.args.object c.requires.can.pass c.requires.can.found in
    none_keeps c.args.shared.now c.args.passes.now.items c.args.ticket.now c.args.outbox.now c.args.object c.index-shared-k.result c.index_mut.result.now
    c.requires.suits c.requires.keeps within c.index-shared-k.is c.index_mut.ensures.value c.try_begin.new.pass c.try_begin.new.ticket
    (begin_none c.index-shared-k.result.label c.index_mut.result.now c.try_begin.new.pass c.args.op c.in-Err.fault c.in-Err.ensures.fault) c.in-Err.ensures.same_ticket

pub returns-in-Err-clause-passes : goal.returns-in-Err-clause-passes
returns-in-Err-clause-passes c =
    let within = slice_get_within c.args.passes.now.items c.args.object c.requires.can.pass c.requires.can.found in
    none_passes c.args.shared.now c.args.passes.now.items c.args.ticket.now c.args.outbox.now c.args.object c.index-shared-k.result c.index_mut.result.now
    c.requires.suits c.requires.keeps within c.index-shared-k.is c.index_mut.ensures.value c.try_begin.new.pass c.try_begin.new.ticket
    (begin_none c.index-shared-k.result.label c.index_mut.result.now c.try_begin.new.pass c.args.op c.in-Err.fault c.in-Err.ensures.fault)

pub returns-in-Err-clause-fault : goal.returns-in-Err-clause-fault
returns-in-Err-clause-fault c =
    let within = slice_get_within c.args.passes.now.items c.args.object c.requires.can.pass c.requires.can.found in
    begin_fault c.args.shared.now c.args.passes.now.items c.args.ticket.now c.args.outbox.now c.args.object c.index-shared-k.result c.index_mut.result.now
    c.requires.suits c.requires.keeps within c.index-shared-k.is c.index_mut.ensures.value c.try_begin.new.pass c.try_begin.new.ticket c.args.op c.in-Err.fault c.args.outbox.now
    c.in-Err.ensures.fault
