use Rattle.std.proofs.Common.{◌≡◌, ◌<◌, ◌≤◌, sym, ap, ◌∙◌, arith}
use Rattle.std.proofs.lemmas.Option.{slice_get_read}
use Rattle.tm_merge.specs.Places.{at_object}
use Rattle.tm_merge.proofs.IndexLemmas.{found_shown, found_last, found_later}
use Rattle.tm_merge.proofs.arrivals.Arrivals.at_object.Goals as goal

pub returns-then-at-shown : goal.returns-then-at-shown
returns-then-at-shown c =
    let a = c.args.self.now in
    let keeps = c.requires.keeps in
    let line = slice_get_read a.objects.items _ c.args.object c.index-line.result.now a.objects.ok.0 (omega (arith, a.objects.ok.0, c.requires.known)) c.index-line.ensures in
    let early : c.args.at ≤ c.index-line.result.now.shown = omega (arith, c.shown.ensures) in
    c.event_at_object.ensures ∙ ap (λ es. at_object es c.args.object c.args.at) c.as_slice.ensures.value
    ∙ sym (found_shown (λ e. e.object) (λ e. e.at) a.objects.items a.shown.items a.slots.items keeps.objects keeps.object_tails keeps.numbered.objects c.args.object c.args.at c.index-line.result.now line early)

pub returns-then-at-shown-2 : goal.returns-then-at-shown-2
returns-then-at-shown-2 c =
    let a = c.args.self.now in
    let keeps = c.requires.keeps in
    let line = slice_get_read a.objects.items _ c.args.object c.index-line.result.now a.objects.ok.0 (omega (arith, a.objects.ok.0, c.requires.known)) c.index-line.ensures in
    let here : c.args.at ≡ c.index-line.result.now.shown = omega (arith, c.shown-2.ensures) in
    rw here (c.last.ensures ∙ sym (found_last (λ e. e.object) (λ e. e.at) a.objects.items a.shown.items a.slots.items keeps.objects keeps.object_tails keeps.numbered.objects c.args.object c.index-line.result.now line))

pub returns : goal.returns
returns c =
    let a = c.args.self.now in
    let keeps = c.requires.keeps in
    let line = slice_get_read a.objects.items _ c.args.object c.index-line.result.now a.objects.ok.0 (omega (arith, a.objects.ok.0, c.requires.known)) c.index-line.ensures in
    let later : c.index-line.result.now.shown < c.args.at = omega (arith, c.shown.ensures, c.shown-2.ensures) in
    c.held_object.ensures ∙ sym (found_later (λ e. e.object) (λ e. e.at) a.objects.items a.shown.items a.slots.items keeps.objects keeps.object_tails keeps.numbered.objects c.args.object c.args.at c.index-line.result.now line later)
