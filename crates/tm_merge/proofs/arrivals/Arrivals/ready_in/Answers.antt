use Rattle.std.proofs.Common.{◌≡◌, ◌≢◌, ◌-◌, suc, None, Some, slice_get, ◌∙◌, ap, arith}
use Rattle.std.proofs.lemmas.Option.{slice_get_read, slice_get_within}
use Rattle.tm_merge.specs.Lines.{slot_at}
use Rattle.tm_merge.proofs.ReadyLemmas.{none_ready, object_there, at_positive, not_ready, is_ready}
use Rattle.tm_merge.proofs.arrivals.Arrivals.ready_in.Goals as goal

pub returns-in_err-slot : goal.returns-in_err-slot
returns-in_err-slot c =
    let a = c.args.self.now in
    let keeps = c.requires.keeps in
    let line = slice_get_read a.threads.items _ c.args.thread c.index.result.now a.threads.ok.0 (omega (arith, a.threads.ok.0, c.requires.known)) c.index.ensures in
    let free = rw c.in_err-slot.was at c.next.ensures in
    rw c.from_residual.ensures (none_ready a keeps c.args.thread c.index.result.now line free)

pub index-requires-2 : goal.index-requires-2
index-requires-2 c =
    let a = c.args.self.now in
    let keeps = c.requires.keeps in
    let line = slice_get_read a.threads.items _ c.args.thread c.index.result.now a.threads.ok.0 (omega (arith, a.threads.ok.0, c.requires.known)) c.index.ensures in
    let slot : slot_at c.index.result.now (suc c.index.result.now.shown) ≡ Some c.in_ok-slot.slot = rw c.in_ok-slot.was at c.next.ensures in
    let has = keeps.threads.known c.args.thread (suc c.index.result.now.shown) c.in_ok-slot.slot c.index.result.now line slot in
    let within = slice_get_within a.slots.items c.in_ok-slot.slot (Some has.entry) has.there in
    omega (arith, a.slots.ok.0, within)

pub returns-in_err-entry : goal.returns-in_err-entry
returns-in_err-entry c =
    let a = c.args.self.now in
    let keeps = c.requires.keeps in
    let line = slice_get_read a.threads.items _ c.args.thread c.index.result.now a.threads.ok.0 (omega (arith, a.threads.ok.0, c.requires.known)) c.index.ensures in
    let slot : slot_at c.index.result.now (suc c.index.result.now.shown) ≡ Some c.in_ok-slot.slot = rw c.in_ok-slot.was at c.next.ensures in
    let has = keeps.threads.known c.args.thread (suc c.index.result.now.shown) c.in_ok-slot.slot c.index.result.now line slot in
    let within = slice_get_within a.slots.items c.in_ok-slot.slot (Some has.entry) has.there in
    let read = slice_get_read a.slots.items _ c.in_ok-slot.slot c.index-2.result.now a.slots.ok.0 (omega (arith, a.slots.ok.0, within)) c.index-2.ensures in
    let none : slice_get a.slots.items c.in_ok-slot.slot ≡ Some None = read ∙ ap Some c.in_err-entry.was in
    let own = has.there in
    absurd cc

pub index-line-requires : goal.index-line-requires
index-line-requires c =
    let a = c.args.self.now in
    let keeps = c.requires.keeps in
    let line = slice_get_read a.threads.items _ c.args.thread c.index.result.now a.threads.ok.0 (omega (arith, a.threads.ok.0, c.requires.known)) c.index.ensures in
    let slot : slot_at c.index.result.now (suc c.index.result.now.shown) ≡ Some c.in_ok-slot.slot = rw c.in_ok-slot.was at c.next.ensures in
    let has = keeps.threads.known c.args.thread (suc c.index.result.now.shown) c.in_ok-slot.slot c.index.result.now line slot in
    let within = slice_get_within a.slots.items c.in_ok-slot.slot (Some has.entry) has.there in
    let read = slice_get_read a.slots.items _ c.in_ok-slot.slot c.index-2.result.now a.slots.ok.0 (omega (arith, a.slots.ok.0, within)) c.index-2.ensures in
    let there : slice_get a.slots.items c.in_ok-slot.slot ≡ Some (Some c.in_ok-entry.entry) = read ∙ ap Some c.in_ok-entry.was in
    omega (arith, a.objects.ok.0, object_there a keeps c.args.thread c.index.result.now line c.in_ok-slot.slot c.in_ok-entry.entry slot there)

pub overflow_sub-entry : goal.overflow_sub-entry
overflow_sub-entry c =
    let a = c.args.self.now in
    let keeps = c.requires.keeps in
    let line = slice_get_read a.threads.items _ c.args.thread c.index.result.now a.threads.ok.0 (omega (arith, a.threads.ok.0, c.requires.known)) c.index.ensures in
    let slot : slot_at c.index.result.now (suc c.index.result.now.shown) ≡ Some c.in_ok-slot.slot = rw c.in_ok-slot.was at c.next.ensures in
    let has = keeps.threads.known c.args.thread (suc c.index.result.now.shown) c.in_ok-slot.slot c.index.result.now line slot in
    let within = slice_get_within a.slots.items c.in_ok-slot.slot (Some has.entry) has.there in
    let read = slice_get_read a.slots.items _ c.in_ok-slot.slot c.index-2.result.now a.slots.ok.0 (omega (arith, a.slots.ok.0, within)) c.index-2.ensures in
    let there : slice_get a.slots.items c.in_ok-slot.slot ≡ Some (Some c.in_ok-entry.entry) = read ∙ ap Some c.in_ok-entry.was in
    at_positive a keeps c.args.thread c.index.result.now line c.in_ok-slot.slot c.in_ok-entry.entry slot there

pub returns-then-entry-shown : goal.returns-then-entry-shown
returns-then-entry-shown c =
    let a = c.args.self.now in
    let keeps = c.requires.keeps in
    let line = slice_get_read a.threads.items _ c.args.thread c.index.result.now a.threads.ok.0 (omega (arith, a.threads.ok.0, c.requires.known)) c.index.ensures in
    let slot : slot_at c.index.result.now (suc c.index.result.now.shown) ≡ Some c.in_ok-slot.slot = rw c.in_ok-slot.was at c.next.ensures in
    let has = keeps.threads.known c.args.thread (suc c.index.result.now.shown) c.in_ok-slot.slot c.index.result.now line slot in
    let within = slice_get_within a.slots.items c.in_ok-slot.slot (Some has.entry) has.there in
    let read = slice_get_read a.slots.items _ c.in_ok-slot.slot c.index-2.result.now a.slots.ok.0 (omega (arith, a.slots.ok.0, within)) c.index-2.ensures in
    let there : slice_get a.slots.items c.in_ok-slot.slot ≡ Some (Some c.in_ok-entry.entry) = read ∙ ap Some c.in_ok-entry.was in
    let object = slice_get_read a.objects.items _ c.in_ok-entry.entry.object c.index-line.result.now a.objects.ok.0 (omega (arith, a.objects.ok.0, object_there a keeps c.args.thread c.index.result.now line c.in_ok-slot.slot c.in_ok-entry.entry slot there)) c.index-line.ensures in
    let differs : c.in_ok-entry.entry.at - 1 ≢ c.index-line.result.now.shown = λ same. omega (arith, same, c.if-entry-shown.true, c.shown.ensures) in
    not_ready a keeps c.args.thread c.index.result.now line c.in_ok-slot.slot c.in_ok-entry.entry slot there c.index-line.result.now object differs

pub returns : goal.returns
returns c =
    let a = c.args.self.now in
    let keeps = c.requires.keeps in
    let line = slice_get_read a.threads.items _ c.args.thread c.index.result.now a.threads.ok.0 (omega (arith, a.threads.ok.0, c.requires.known)) c.index.ensures in
    let slot : slot_at c.index.result.now (suc c.index.result.now.shown) ≡ Some c.in_ok-slot.slot = rw c.in_ok-slot.was at c.next.ensures in
    let has = keeps.threads.known c.args.thread (suc c.index.result.now.shown) c.in_ok-slot.slot c.index.result.now line slot in
    let within = slice_get_within a.slots.items c.in_ok-slot.slot (Some has.entry) has.there in
    let read = slice_get_read a.slots.items _ c.in_ok-slot.slot c.index-2.result.now a.slots.ok.0 (omega (arith, a.slots.ok.0, within)) c.index-2.ensures in
    let there : slice_get a.slots.items c.in_ok-slot.slot ≡ Some (Some c.in_ok-entry.entry) = read ∙ ap Some c.in_ok-entry.was in
    let object = slice_get_read a.objects.items _ c.in_ok-entry.entry.object c.index-line.result.now a.objects.ok.0 (omega (arith, a.objects.ok.0, object_there a keeps c.args.thread c.index.result.now line c.in_ok-slot.slot c.in_ok-entry.entry slot there)) c.index-line.ensures in
    let equal : c.in_ok-entry.entry.at - 1 ≡ c.index-line.result.now.shown = omega (arith, c.if-entry-shown.false, c.shown.ensures) in
    is_ready a keeps c.args.thread c.index.result.now line c.in_ok-slot.slot c.in_ok-entry.entry slot there c.index-line.result.now object equal
