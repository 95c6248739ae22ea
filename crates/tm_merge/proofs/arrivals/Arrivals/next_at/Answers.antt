use Rattle.std.proofs.Common.{◌≡◌, ◌<◌, ℕ, suc, Option, Some, None, get_or, slice_get, length, subst, arith}
use Rattle.std.specs.Prelude.{IfSome}
use Rattle.std.proofs.lemmas.Option.{slice_get_read, slice_get_within}
use Rattle.tm_base.specs.declared.events.Entry.{Entry}
use Rattle.tm_merge.specs.declared.arrivals.Arrivals.{Arrivals}
use Rattle.tm_merge.specs.declared.lines.Line.{Line}
use Rattle.tm_merge.specs.Lines.{slot_at}
use Rattle.tm_merge.specs.StoredArrivals.{KeepsArrivals}
use Rattle.tm_merge.proofs.ReadyLemmas.{next_slot}
use Rattle.tm_merge.proofs.ShowingLemmas.{thread_there}
use Rattle.tm_merge.proofs.SlotsLemmas.{held_in}
use Rattle.tm_merge.proofs.arrivals.Arrivals.next_at.Goals as goal

line : (a : Arrivals) (k : ℕ) (o : Line) → k < length a.objects.items → o ≡ get_or a.objects.items k o → slice_get a.objects.items k ≡ Some o
line a k o known is = slice_get_read a.objects.items _ k o a.objects.ok.0 (omega (arith, a.objects.ok.0, known)) is

-- the slot that the line names
slot_within : (a : Arrivals) → KeepsArrivals a → (k : ℕ) (o : Line) → slice_get a.objects.items k ≡ Some o → (s : ℕ) → slot_at o (suc o.shown) ≡ Some s → s < length a.slots.items
slot_within a keeps k o at s slot =
    let has = keeps.objects.known k (suc o.shown) s o at slot in
    slice_get_within a.slots.items s (Some has.entry) has.there

thread_of : (a : Arrivals) → KeepsArrivals a → (s : ℕ) (r : Option Entry) → slice_get a.slots.items s ≡ Some r → IfSome r (λ e. e.thread < length a.threads.items)
thread_of a keeps s None h = tt
thread_of a keeps s (Some e) h = thread_there a keeps e (held_in a.slots.items s e h)

pub returns-in_err-slot-clause-only : goal.returns-in_err-slot-clause-only
returns-in_err-slot-clause-only c e ready same =
    let free = rw c.in_err-slot.was at c.next.ensures in
    let next = next_slot c.args.self.now c.requires.keeps c.args.object c.index.result.now (line c.args.self.now c.args.object c.index.result.now c.requires.known c.index.ensures) e ready same in
    let none = free next.1.fits in
    let own = next.1.slot in
    absurd cc

pub index-requires-2 : goal.index-requires-2
index-requires-2 c =
    let here : slot_at c.index.result.now (suc c.index.result.now.shown) ≡ Some c.in_ok-slot.slot = rw c.in_ok-slot.was at c.next.ensures in
    let inside = slot_within c.args.self.now c.requires.keeps c.args.object c.index.result.now (line c.args.self.now c.args.object c.index.result.now c.requires.known c.index.ensures) c.in_ok-slot.slot here in
    omega (arith, c.args.self.now.slots.ok.0, inside)

pub returns-clause-only : goal.returns-clause-only
returns-clause-only c e ready same =
    let a = c.args.self.now in
    let here : slot_at c.index.result.now (suc c.index.result.now.shown) ≡ Some c.in_ok-slot.slot = rw c.in_ok-slot.was at c.next.ensures in
    let inside = slot_within c.args.self.now c.requires.keeps c.args.object c.index.result.now (line c.args.self.now c.args.object c.index.result.now c.requires.known c.index.ensures) c.in_ok-slot.slot here in
    let read = slice_get_read a.slots.items _ c.in_ok-slot.slot c.index-2.result.now a.slots.ok.0 (omega (arith, a.slots.ok.0, inside)) c.index-2.ensures in
    let next = next_slot a c.requires.keeps c.args.object c.index.result.now (line c.args.self.now c.args.object c.index.result.now c.requires.known c.index.ensures) e ready same in
    let own = next.1.slot in
    let slots_are : next.0 ≡ c.in_ok-slot.slot = cc in
    let there : slice_get a.slots.items c.in_ok-slot.slot ≡ Some (Some e) = subst (λ s. slice_get a.slots.items s ≡ Some (Some e)) slots_are next.1.there in
    cc

pub returns-clause-thread : goal.returns-clause-thread
returns-clause-thread c =
    let a = c.args.self.now in
    let here : slot_at c.index.result.now (suc c.index.result.now.shown) ≡ Some c.in_ok-slot.slot = rw c.in_ok-slot.was at c.next.ensures in
    let inside = slot_within c.args.self.now c.requires.keeps c.args.object c.index.result.now (line c.args.self.now c.args.object c.index.result.now c.requires.known c.index.ensures) c.in_ok-slot.slot here in
    let read = slice_get_read a.slots.items _ c.in_ok-slot.slot c.index-2.result.now a.slots.ok.0 (omega (arith, a.slots.ok.0, inside)) c.index-2.ensures in
    thread_of a c.requires.keeps c.in_ok-slot.slot c.index-2.result.now read
