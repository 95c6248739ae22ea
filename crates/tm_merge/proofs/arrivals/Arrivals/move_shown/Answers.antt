use Rattle.std.proofs.Common.{◌-◌, None, refl, arith}
use Rattle.std.specs.Vec.{with_item}
use Rattle.std.proofs.lemmas.Option.{slice_get_read}
use Rattle.tm_merge.specs.declared.arrivals.Arrivals.{Arrivals}
use Rattle.tm_merge.proofs.ReadyLemmas.{ready_at}
use Rattle.tm_merge.proofs.ShowingLemmas.{thread_there, object_there, shows, keeps-shows}
use Rattle.tm_merge.proofs.arrivals.Arrivals.move_shown.Goals as goal

pub index_mut-requires-2 : goal.index_mut-requires-2
index_mut-requires-2 c =
    let a = c.args.self.now in
    let keeps = c.requires.keeps in
    let e = c.args.candidate.entry in
    let ready = c.requires.next.next.ready in
    let in_thread = thread_there a keeps e ready.held in
    omega (arith, a.threads.ok.0, in_thread)

pub show-requires : goal.show-requires
show-requires c =
    let a = c.args.self.now in
    let keeps = c.requires.keeps in
    let e = c.args.candidate.entry in
    let ready = c.requires.next.next.ready in
    let in_thread = thread_there a keeps e ready.held in
    let line = slice_get_read a.threads.items _ e.thread c.index_mut-2.result.now a.threads.ok.0 (omega (arith, a.threads.ok.0, in_thread)) c.index_mut-2.ensures.value in
    ((ready_at a keeps e ready).1.thread c.index_mut-2.result.now line).0

pub index_mut-requires-3 : goal.index_mut-requires-3
index_mut-requires-3 c =
    let a = c.args.self.now in
    let keeps = c.requires.keeps in
    let e = c.args.candidate.entry in
    let ready = c.requires.next.next.ready in
    let in_object = object_there a keeps e ready.held in
    omega (arith, a.objects.ok.0, in_object)

pub show-requires-2 : goal.show-requires-2
show-requires-2 c =
    let a = c.args.self.now in
    let keeps = c.requires.keeps in
    let e = c.args.candidate.entry in
    let ready = c.requires.next.next.ready in
    let in_object = object_there a keeps e ready.held in
    let object = slice_get_read a.objects.items _ e.object c.index_mut-3.result.now a.objects.ok.0 (omega (arith, a.objects.ok.0, in_object)) c.index_mut-3.ensures.value in
    (ready_at a keeps e ready).1.object c.index_mut-3.result.now object

pub returns-clause-keeps : goal.returns-clause-keeps
returns-clause-keeps c =
    let a = c.args.self.now in
    let keeps = c.requires.keeps in
    let e = c.args.candidate.entry in
    let ready = c.requires.next.next.ready in
    let in_thread = thread_there a keeps e ready.held in
    let line = slice_get_read a.threads.items _ e.thread c.index_mut-2.result.now a.threads.ok.0 (omega (arith, a.threads.ok.0, in_thread)) c.index_mut-2.ensures.value in
    let in_object = object_there a keeps e ready.held in
    let object = slice_get_read a.objects.items _ e.object c.index_mut-3.result.now a.objects.ok.0 (omega (arith, a.objects.ok.0, in_object)) c.index_mut-3.ensures.value in
    let b : Arrivals = record {
      threads = with_item a.threads e.thread c.show.new.self;
      objects = with_item a.objects e.object c.show-2.new.self;
      shown = c.push_reserved.new.self;
      slots = with_item a.slots c.args.candidate.slot None;
      held = a.held - 1;
      ready = a.ready;
    } in
    let at = (ready_at a keeps e ready).1 in
    keeps-shows a b e keeps c.args.candidate.slot c.requires.next.there c.requires.next.next c.index_mut-2.result.now c.show.new.self c.index_mut-3.result.now c.show-2.new.self
    line object (at.thread c.index_mut-2.result.now line).0 (at.object c.index_mut-3.result.now object) c.show.ensures c.show-2.ensures refl refl c.push_reserved.ensures.items refl refl (omega (arith, c.push_reserved.ensures.capacity))

pub returns-clause-shows : goal.returns-clause-shows
returns-clause-shows c =
    let a = c.args.self.now in
    let keeps = c.requires.keeps in
    let e = c.args.candidate.entry in
    let ready = c.requires.next.next.ready in
    let in_thread = thread_there a keeps e ready.held in
    let line = slice_get_read a.threads.items _ e.thread c.index_mut-2.result.now a.threads.ok.0 (omega (arith, a.threads.ok.0, in_thread)) c.index_mut-2.ensures.value in
    let in_object = object_there a keeps e ready.held in
    let object = slice_get_read a.objects.items _ e.object c.index_mut-3.result.now a.objects.ok.0 (omega (arith, a.objects.ok.0, in_object)) c.index_mut-3.ensures.value in
    let b : Arrivals = record {
      threads = with_item a.threads e.thread c.show.new.self;
      objects = with_item a.objects e.object c.show-2.new.self;
      shown = c.push_reserved.new.self;
      slots = with_item a.slots c.args.candidate.slot None;
      held = a.held - 1;
      ready = a.ready;
    } in
    let at = (ready_at a keeps e ready).1 in
    shows a b e keeps c.args.candidate.slot c.requires.next.there c.requires.next.next c.index_mut-2.result.now c.show.new.self c.index_mut-3.result.now c.show-2.new.self
    line object (at.thread c.index_mut-2.result.now line).0 (at.object c.index_mut-3.result.now object) c.show.ensures c.show-2.ensures refl refl c.push_reserved.ensures.items refl
