use Rattle.std.proofs.Common.{◌≡◌, None, Some, sym, ◌∙◌, arith}
use Rattle.std.proofs.lemmas.Option.{slice_get_read, slice_get_within}
use Rattle.tm_merge.specs.Lines.{slot_at}
use Rattle.tm_merge.proofs.IndexLemmas.{held_slot, held_free}
use Rattle.tm_merge.proofs.arrivals.Arrivals.held_object.Goals as goal

pub returns-in_err-slot : goal.returns-in_err-slot
returns-in_err-slot c =
    let a = c.args.self.now in
    let keeps = c.requires.keeps in
    let line = slice_get_read a.objects.items _ c.args.object c.index.result.now a.objects.ok.0 (omega (arith, a.objects.ok.0, c.requires.known)) c.index.ensures in
    let free : slot_at c.index.result.now c.args.at ≡ None = sym c.slot.ensures ∙ c.in_err-slot.was in
    c.from_residual.ensures ∙ sym (held_free (λ e. e.object) (λ e. e.at) a.objects.items a.shown.items a.slots.items keeps.objects keeps.object_tails keeps.numbered.objects c.args.object c.args.at c.index.result.now line free)

pub index-requires-2 : goal.index-requires-2
index-requires-2 c =
    let a = c.args.self.now in
    let keeps = c.requires.keeps in
    let line = slice_get_read a.objects.items _ c.args.object c.index.result.now a.objects.ok.0 (omega (arith, a.objects.ok.0, c.requires.known)) c.index.ensures in
    let slot : slot_at c.index.result.now c.args.at ≡ Some c.in_ok-slot.slot = sym c.slot.ensures ∙ c.in_ok-slot.was in
    let has = keeps.objects.known c.args.object c.args.at c.in_ok-slot.slot c.index.result.now line slot in
    let within = slice_get_within a.slots.items c.in_ok-slot.slot (Some has.entry) has.there in
    omega (arith, a.slots.ok.0, within)

pub returns : goal.returns
returns c =
    let a = c.args.self.now in
    let keeps = c.requires.keeps in
    let line = slice_get_read a.objects.items _ c.args.object c.index.result.now a.objects.ok.0 (omega (arith, a.objects.ok.0, c.requires.known)) c.index.ensures in
    let slot : slot_at c.index.result.now c.args.at ≡ Some c.in_ok-slot.slot = sym c.slot.ensures ∙ c.in_ok-slot.was in
    let has = keeps.objects.known c.args.object c.args.at c.in_ok-slot.slot c.index.result.now line slot in
    let within = slice_get_within a.slots.items c.in_ok-slot.slot (Some has.entry) has.there in
    let there = slice_get_read a.slots.items _ c.in_ok-slot.slot c.index-2.result.now a.slots.ok.0 (omega (arith, a.slots.ok.0, within)) c.index-2.ensures in
    sym (held_slot (λ e. e.object) (λ e. e.at) a.objects.items a.shown.items a.slots.items keeps.objects keeps.object_tails keeps.numbered.objects c.args.object c.args.at c.in_ok-slot.slot c.index.result.now line slot c.index-2.result.now there)
