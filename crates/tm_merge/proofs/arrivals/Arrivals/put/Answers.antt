use Rattle.std.proofs.Common.{◌≡◌, ◌+◌, Some, slice_get, length, refl, subst, arith}
use Rattle.std.specs.Vec.{with_item}
use Rattle.std.proofs.lemmas.Option.{slice_get_read}
use Rattle.tm_merge.specs.declared.arrivals.Arrivals.{Arrivals}
use Rattle.tm_merge.specs.Lines.{Gains}
use Rattle.tm_merge.specs.StoredArrivals.{view_of}
use Rattle.tm_merge.proofs.KeepsLemmas.{thread_line, object_line, free_place, free_at, joins, keeps-joins}
use Rattle.tm_merge.proofs.RefusalLemmas.{IsAccepted, accepted}
use Rattle.tm_merge.proofs.arrivals.Arrivals.put.Goals as goal

module _ (c : goal.After-index_mut) where
  abbrev old : Arrivals
  old = c.args.self.now

  fits : IsAccepted (view_of old) c.args.entry
  fits = accepted (view_of old) c.args.entry c.requires.accepted

  thread : slice_get old.threads.items c.args.entry.thread ≡ Some c.index_mut.result.now
  thread =
      let known = thread_line old c.requires.keeps c.args.entry fits in
      slice_get_read old.threads.items _ c.args.entry.thread c.index_mut.result.now old.threads.ok.0 (omega (arith, old.threads.ok.0, known)) c.index_mut.ensures.value

pub add-requires-clause-later : goal.add-requires-clause-later
add-requires-clause-later c = (free_place (old c) c.requires.keeps c.args.entry c.index_mut.result.now (fits c) (thread c)).0

pub add-requires-clause-new : goal.add-requires-clause-new
add-requires-clause-new c = (free_place (old c) c.requires.keeps c.args.entry c.index_mut.result.now (fits c) (thread c)).1

pub add-requires-clause-room : goal.add-requires-clause-room
add-requires-clause-room c = c.requires.room.thread c.index_mut.result.now (thread c)

module _ (c : goal.After-index_mut-2) where
  abbrev old_2 : Arrivals
  old_2 = c.args.self.now

  fits_2 : IsAccepted (view_of old_2) c.args.entry
  fits_2 = accepted (view_of old_2) c.args.entry c.requires.accepted

  object : slice_get old_2.objects.items c.args.entry.object ≡ Some c.index_mut-2.result.now
  object =
      let known = object_line old_2 c.requires.keeps c.args.entry fits_2 in
      slice_get_read old_2.objects.items _ c.args.entry.object c.index_mut-2.result.now old_2.objects.ok.0 (omega (arith, old_2.objects.ok.0, known)) c.index_mut-2.ensures.value

pub add-requires-2-clause-later : goal.add-requires-2-clause-later
add-requires-2-clause-later c = (free_at (old_2 c) c.requires.keeps c.args.entry c.index_mut-2.result.now (fits_2 c) (object c)).0

pub add-requires-2-clause-new : goal.add-requires-2-clause-new
add-requires-2-clause-new c = (free_at (old_2 c) c.requires.keeps c.args.entry c.index_mut-2.result.now (fits_2 c) (object c)).1

pub add-requires-2-clause-room : goal.add-requires-2-clause-room
add-requires-2-clause-room c = c.requires.room.object c.index_mut-2.result.now (object c)

module _ (c : goal.After-self-3-1) where
  abbrev before : Arrivals
  before = c.args.self.now

  abbrev after : Arrivals
  after = record {
    threads = with_item before.threads c.args.entry.thread c.add.new.self;
    objects = with_item before.objects c.args.entry.object c.add-2.new.self;
    shown = before.shown;
    slots = c.push_reserved.new.self;
    held = before.held + 1;
    ready = before.ready;
  }

  fits_3 : IsAccepted (view_of before) c.args.entry
  fits_3 = accepted (view_of before) c.args.entry c.requires.accepted

  thread_3 : slice_get before.threads.items c.args.entry.thread ≡ Some c.index_mut.result.now
  thread_3 =
      let known = thread_line before c.requires.keeps c.args.entry fits_3 in
      slice_get_read before.threads.items _ c.args.entry.thread c.index_mut.result.now before.threads.ok.0 (omega (arith, before.threads.ok.0, known)) c.index_mut.ensures.value

  object_3 : slice_get before.objects.items c.args.entry.object ≡ Some c.index_mut-2.result.now
  object_3 =
      let known = object_line before c.requires.keeps c.args.entry fits_3 in
      slice_get_read before.objects.items _ c.args.entry.object c.index_mut-2.result.now before.objects.ok.0 (omega (arith, before.objects.ok.0, known)) c.index_mut-2.ensures.value

  slot_is : c.len-slot.result ≡ length before.slots.items
  slot_is = omega (arith, c.len-slot.ensures, before.slots.ok.0)

  gains_thread : Gains c.index_mut.result.now c.args.entry.place (length before.slots.items) c.add.new.self
  gains_thread = subst (λ s. Gains c.index_mut.result.now c.args.entry.place s c.add.new.self) slot_is c.add.ensures

  gains_object : Gains c.index_mut-2.result.now c.args.entry.at (length before.slots.items) c.add-2.new.self
  gains_object = subst (λ s. Gains c.index_mut-2.result.now c.args.entry.at s c.add-2.new.self) slot_is c.add-2.ensures

pub returns-clause-keeps : goal.returns-clause-keeps
returns-clause-keeps c =
    keeps-joins (before c) (after c) c.args.entry c.requires.keeps (fits_3 c) c.index_mut.result.now c.add.new.self c.index_mut-2.result.now c.add-2.new.self
    (thread_3 c) (object_3 c) (gains_thread c) (gains_object c) (omega arith) (omega arith) refl refl refl c.push_reserved.ensures.items (omega arith) c.requires.room.shown

pub returns-clause-joins : goal.returns-clause-joins
returns-clause-joins c =
    joins (before c) (after c) c.args.entry c.requires.keeps (fits_3 c) c.index_mut.result.now c.add.new.self c.index_mut-2.result.now c.add-2.new.self
    (thread_3 c) (object_3 c) (gains_thread c) (gains_object c) (omega arith) (omega arith) refl refl refl c.push_reserved.ensures.items
