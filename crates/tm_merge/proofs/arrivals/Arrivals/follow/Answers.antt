use Rattle.std.proofs.Common.{refl, arith}
use Rattle.std.specs.Vec.{with_item}
use Rattle.std.proofs.lemmas.Option.{slice_get_read}
use Rattle.tm_merge.specs.declared.arrivals.Arrivals.{Arrivals}
use Rattle.tm_merge.proofs.FollowingLemmas.{all-follows}
use Rattle.tm_merge.proofs.arrivals.Arrivals.follow.Goals as goal

pub returns-clause-all : goal.returns-clause-all
returns-clause-all c =
    let a = c.args.self.now in
    let e = c.args.entry in
    let follows = c.requires.follows in
    let line = slice_get_read a.threads.items _ e.thread c.index_mut.result.now a.threads.ok.0 (omega (arith, a.threads.ok.0, follows.known_thread)) c.index_mut.ensures.value in
    let object = slice_get_read a.objects.items _ e.object c.index_mut-2.result.now a.objects.ok.0 (omega (arith, a.objects.ok.0, follows.known_object)) c.index_mut-2.ensures.value in
    let b : Arrivals = record {
      threads = with_item a.threads e.thread c.follow.new.self;
      objects = with_item a.objects e.object c.follow-2.new.self;
      shown = c.push_reserved.new.self;
      slots = a.slots;
      held = a.held;
      ready = a.ready;
    } in
    all-follows a b e c.requires.all follows c.index_mut.result.now c.follow.new.self c.index_mut-2.result.now c.follow-2.new.self
    line object c.follow.ensures c.follow-2.ensures (omega arith) (omega arith) refl refl c.push_reserved.ensures.items refl refl refl (omega (arith, c.push_reserved.ensures.capacity))
