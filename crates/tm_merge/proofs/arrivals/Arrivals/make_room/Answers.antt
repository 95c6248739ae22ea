use Rattle.std.proofs.Common.{◌≡◌, Some, slice_get, length, length-set, refl, ap, subst, arith}
use Rattle.std.specs.Vec.{with_item}
use Rattle.std.proofs.lemmas.Option.{slice_get_read, slice_get_within}
use Rattle.tm_merge.specs.declared.arrivals.Arrivals.{Arrivals}
use Rattle.tm_merge.specs.Lines.{HasRoomAt}
use Rattle.tm_merge.specs.StoredArrivals.{view_of}
use Rattle.tm_merge.proofs.ArrivingLemmas.{tails-set, index-same}
use Rattle.tm_merge.proofs.KeepsLemmas.{keeps-moved, thread_line, object_line, free_place, free_at}
use Rattle.tm_merge.proofs.ListLemmas.{slice_get-set_same}
use Rattle.tm_merge.proofs.RefusalLemmas.{IsAccepted, accepted}
use Rattle.tm_merge.proofs.arrivals.Arrivals.make_room.Goals as goal

pub returns-in_err-reserve-clause-keeps : goal.returns-in_err-reserve-clause-keeps
returns-in_err-reserve-clause-keeps c =
    let a = c.args.self.now in
    let keeps = c.requires.keeps in
    keeps-moved a (record a { shown = c.reserve.new.self }) keeps keeps.main keeps.threads keeps.objects keeps.thread_tails keeps.object_tails c.reserve.ensures.items refl refl c.reserve.ensures.capacity

pub returns-in_err-reserve-2-clause-keeps : goal.returns-in_err-reserve-2-clause-keeps
returns-in_err-reserve-2-clause-keeps c =
    let a = c.args.self.now in
    let keeps = c.requires.keeps in
    keeps-moved a (record a { shown = c.reserve.new.self; slots = c.reserve-2.new.self }) keeps keeps.main keeps.threads keeps.objects keeps.thread_tails keeps.object_tails c.reserve.ensures.items c.reserve-2.ensures.items refl c.reserve.ensures.capacity

module _ (c : goal.After-index_mut) where
  abbrev old_1 : Arrivals
  old_1 = c.args.self.now

  fits_1 : IsAccepted (view_of old_1) c.args.entry.now
  fits_1 = accepted (view_of old_1) c.args.entry.now c.requires.accepted

  thread_1 : slice_get old_1.threads.items c.args.entry.now.thread ≡ Some c.index_mut.result.now
  thread_1 =
      let known = thread_line old_1 c.requires.keeps c.args.entry.now fits_1 in
      slice_get_read old_1.threads.items _ c.args.entry.now.thread c.index_mut.result.now old_1.threads.ok.0 (omega (arith, old_1.threads.ok.0, known)) c.index_mut.ensures.value

pub make_room-requires : goal.make_room-requires
make_room-requires c = (free_place (old_1 c) c.requires.keeps c.args.entry.now c.index_mut.result.now (fits_1 c) (thread_1 c)).0

module _ (c : goal.After-from_residual-in_err-make_room) where
  abbrev old_2 : Arrivals
  old_2 = c.args.self.now

  fits_2 : IsAccepted (view_of old_2) c.args.entry.now
  fits_2 = accepted (view_of old_2) c.args.entry.now c.requires.accepted

  thread_2 : slice_get old_2.threads.items c.args.entry.now.thread ≡ Some c.index_mut.result.now
  thread_2 =
      let known = thread_line old_2 c.requires.keeps c.args.entry.now fits_2 in
      slice_get_read old_2.threads.items _ c.args.entry.now.thread c.index_mut.result.now old_2.threads.ok.0 (omega (arith, old_2.threads.ok.0, known)) c.index_mut.ensures.value

pub returns-in_err-make_room-clause-keeps : goal.returns-in_err-make_room-clause-keeps
returns-in_err-make_room-clause-keeps c =
    let a = c.args.self.now in
    let keeps = c.requires.keeps in
    keeps-moved a (record a { threads = with_item a.threads c.args.entry.now.thread c.make_room.new.self; shown = c.reserve.new.self; slots = c.reserve-2.new.self }) keeps
    (omega (arith, keeps.main, length-set a.threads.items c.args.entry.now.thread c.make_room.new.self))
    (index-same (λ e. e.thread) (λ e. e.place) a.threads.items c.args.entry.now.thread c.index_mut.result.now c.make_room.new.self (thread_2 c) a.slots.items c.make_room.ensures.same keeps.threads)
    keeps.objects
    (tails-set (λ e. e.thread) (λ e. e.place) a.threads.items c.args.entry.now.thread c.index_mut.result.now c.make_room.new.self (thread_2 c) a.shown.items c.make_room.ensures.same.shown c.make_room.ensures.same.last keeps.thread_tails)
    keeps.object_tails c.reserve.ensures.items c.reserve-2.ensures.items refl c.reserve.ensures.capacity

module _ (c : goal.After-index_mut-2) where
  abbrev old_3 : Arrivals
  old_3 = c.args.self.now

  fits_3 : IsAccepted (view_of old_3) c.args.entry.now
  fits_3 = accepted (view_of old_3) c.args.entry.now c.requires.accepted

  thread_3 : slice_get old_3.threads.items c.args.entry.now.thread ≡ Some c.index_mut.result.now
  thread_3 =
      let known = thread_line old_3 c.requires.keeps c.args.entry.now fits_3 in
      slice_get_read old_3.threads.items _ c.args.entry.now.thread c.index_mut.result.now old_3.threads.ok.0 (omega (arith, old_3.threads.ok.0, known)) c.index_mut.ensures.value

  object_3 : slice_get old_3.objects.items c.args.entry.now.object ≡ Some c.index_mut-2.result.now
  object_3 =
      let known = object_line old_3 c.requires.keeps c.args.entry.now fits_3 in
      slice_get_read old_3.objects.items _ c.args.entry.now.object c.index_mut-2.result.now old_3.objects.ok.0 (omega (arith, old_3.objects.ok.0, known)) c.index_mut-2.ensures.value

pub make_room-requires-2 : goal.make_room-requires-2
make_room-requires-2 c = (free_at (old_3 c) c.requires.keeps c.args.entry.now c.index_mut-2.result.now (fits_3 c) (object_3 c)).0

module _ (c : goal.After-from_residual-in_err-make_room-2) where
  abbrev old_4 : Arrivals
  old_4 = c.args.self.now

  fits_4 : IsAccepted (view_of old_4) c.args.entry.now
  fits_4 = accepted (view_of old_4) c.args.entry.now c.requires.accepted

  thread_4 : slice_get old_4.threads.items c.args.entry.now.thread ≡ Some c.index_mut.result.now
  thread_4 =
      let known = thread_line old_4 c.requires.keeps c.args.entry.now fits_4 in
      slice_get_read old_4.threads.items _ c.args.entry.now.thread c.index_mut.result.now old_4.threads.ok.0 (omega (arith, old_4.threads.ok.0, known)) c.index_mut.ensures.value

  object_4 : slice_get old_4.objects.items c.args.entry.now.object ≡ Some c.index_mut-2.result.now
  object_4 =
      let known = object_line old_4 c.requires.keeps c.args.entry.now fits_4 in
      slice_get_read old_4.objects.items _ c.args.entry.now.object c.index_mut-2.result.now old_4.objects.ok.0 (omega (arith, old_4.objects.ok.0, known)) c.index_mut-2.ensures.value

pub returns-in_err-make_room-2-clause-keeps : goal.returns-in_err-make_room-2-clause-keeps
returns-in_err-make_room-2-clause-keeps c =
    let a = c.args.self.now in
    let keeps = c.requires.keeps in
    keeps-moved a (record a { threads = with_item a.threads c.args.entry.now.thread c.make_room.new.self; objects = with_item a.objects c.args.entry.now.object c.make_room-2.new.self; shown = c.reserve.new.self; slots = c.reserve-2.new.self }) keeps
    (omega (arith, keeps.main, length-set a.threads.items c.args.entry.now.thread c.make_room.new.self))
    (index-same (λ e. e.thread) (λ e. e.place) a.threads.items c.args.entry.now.thread c.index_mut.result.now c.make_room.new.self (thread_4 c) a.slots.items c.make_room.ensures.same keeps.threads)
    (index-same (λ e. e.object) (λ e. e.at) a.objects.items c.args.entry.now.object c.index_mut-2.result.now c.make_room-2.new.self (object_4 c) a.slots.items c.make_room-2.ensures.same keeps.objects)
    (tails-set (λ e. e.thread) (λ e. e.place) a.threads.items c.args.entry.now.thread c.index_mut.result.now c.make_room.new.self (thread_4 c) a.shown.items c.make_room.ensures.same.shown c.make_room.ensures.same.last keeps.thread_tails)
    (tails-set (λ e. e.object) (λ e. e.at) a.objects.items c.args.entry.now.object c.index_mut-2.result.now c.make_room-2.new.self (object_4 c) a.shown.items c.make_room-2.ensures.same.shown c.make_room-2.ensures.same.last keeps.object_tails)
    c.reserve.ensures.items c.reserve-2.ensures.items refl c.reserve.ensures.capacity

module _ (c : goal.In_ok-make_room-2) where
  abbrev old_5 : Arrivals
  old_5 = c.args.self.now

  fits_5 : IsAccepted (view_of old_5) c.args.entry.now
  fits_5 = accepted (view_of old_5) c.args.entry.now c.requires.accepted

  thread_5 : slice_get old_5.threads.items c.args.entry.now.thread ≡ Some c.index_mut.result.now
  thread_5 =
      let known = thread_line old_5 c.requires.keeps c.args.entry.now fits_5 in
      slice_get_read old_5.threads.items _ c.args.entry.now.thread c.index_mut.result.now old_5.threads.ok.0 (omega (arith, old_5.threads.ok.0, known)) c.index_mut.ensures.value

  object_5 : slice_get old_5.objects.items c.args.entry.now.object ≡ Some c.index_mut-2.result.now
  object_5 =
      let known = object_line old_5 c.requires.keeps c.args.entry.now fits_5 in
      slice_get_read old_5.objects.items _ c.args.entry.now.object c.index_mut-2.result.now old_5.objects.ok.0 (omega (arith, old_5.objects.ok.0, known)) c.index_mut-2.ensures.value

pub returns-clause-keeps : goal.returns-clause-keeps
returns-clause-keeps c =
    let a = c.args.self.now in
    let keeps = c.requires.keeps in
    keeps-moved a (record a { threads = with_item a.threads c.args.entry.now.thread c.make_room.new.self; objects = with_item a.objects c.args.entry.now.object c.make_room-2.new.self; shown = c.reserve.new.self; slots = c.reserve-2.new.self }) keeps
    (omega (arith, keeps.main, length-set a.threads.items c.args.entry.now.thread c.make_room.new.self))
    (index-same (λ e. e.thread) (λ e. e.place) a.threads.items c.args.entry.now.thread c.index_mut.result.now c.make_room.new.self (thread_5 c) a.slots.items c.make_room.ensures.same keeps.threads)
    (index-same (λ e. e.object) (λ e. e.at) a.objects.items c.args.entry.now.object c.index_mut-2.result.now c.make_room-2.new.self (object_5 c) a.slots.items c.make_room-2.ensures.same keeps.objects)
    (tails-set (λ e. e.thread) (λ e. e.place) a.threads.items c.args.entry.now.thread c.index_mut.result.now c.make_room.new.self (thread_5 c) a.shown.items c.make_room.ensures.same.shown c.make_room.ensures.same.last keeps.thread_tails)
    (tails-set (λ e. e.object) (λ e. e.at) a.objects.items c.args.entry.now.object c.index_mut-2.result.now c.make_room-2.new.self (object_5 c) a.shown.items c.make_room-2.ensures.same.shown c.make_room-2.ensures.same.last keeps.object_tails)
    c.reserve.ensures.items c.reserve-2.ensures.items refl c.reserve.ensures.capacity

pub returns-clause-room : goal.returns-clause-room
returns-clause-room c =
    let a = c.args.self.now in
    record {
      shown = omega (arith, c.in_ok-reserve.ensures.ok, c.reserve.new.self.ok.0, ap length c.reserve.ensures.items);
      slots = omega (arith, c.in_ok-reserve-2.ensures.ok, c.reserve-2.new.self.ok.0, ap length c.reserve-2.ensures.items);
      thread = λ l at.
          let here = slice_get-set_same a.threads.items c.args.entry.now.thread c.make_room.new.self (slice_get_within a.threads.items c.args.entry.now.thread c.index_mut.result.now (thread_5 c)) in
          let same : c.make_room.new.self ≡ l = cc in
          subst (λ m. HasRoomAt m c.args.entry.now.place) same c.in_ok-make_room.ensures.room;
      object = λ l at.
          let here = slice_get-set_same a.objects.items c.args.entry.now.object c.make_room-2.new.self (slice_get_within a.objects.items c.args.entry.now.object c.index_mut-2.result.now (object_5 c)) in
          let same : c.make_room-2.new.self ≡ l = cc in
          subst (λ m. HasRoomAt m c.args.entry.now.at) same c.in_ok-make_room-2.ensures.room;
    }
