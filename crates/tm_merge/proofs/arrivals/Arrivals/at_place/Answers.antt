use Rattle.std.proofs.Common.{◌≡◌, ◌<◌, ◌≤◌, sym, ap, ◌∙◌, arith}
use Rattle.std.proofs.lemmas.Option.{slice_get_read}
use Rattle.tm_merge.specs.Places.{at_place}
use Rattle.tm_merge.proofs.IndexLemmas.{found_shown, found_last, found_later}
use Rattle.tm_merge.proofs.arrivals.Arrivals.at_place.Goals as goal

pub returns-then-place-shown : goal.returns-then-place-shown
returns-then-place-shown c =
    let a = c.args.self.now in
    let keeps = c.requires.keeps in
    let line = slice_get_read a.threads.items _ c.args.thread c.index-line.result.now a.threads.ok.0 (omega (arith, a.threads.ok.0, c.requires.known)) c.index-line.ensures in
    let early : c.args.place ≤ c.index-line.result.now.shown = omega (arith, c.shown.ensures) in
    c.event_at_place.ensures ∙ ap (λ es. at_place es c.args.thread c.args.place) c.as_slice.ensures.value
    ∙ sym (found_shown (λ e. e.thread) (λ e. e.place) a.threads.items a.shown.items a.slots.items keeps.threads keeps.thread_tails keeps.numbered.threads c.args.thread c.args.place c.index-line.result.now line early)

pub returns-then-place-shown-2 : goal.returns-then-place-shown-2
returns-then-place-shown-2 c =
    let a = c.args.self.now in
    let keeps = c.requires.keeps in
    let line = slice_get_read a.threads.items _ c.args.thread c.index-line.result.now a.threads.ok.0 (omega (arith, a.threads.ok.0, c.requires.known)) c.index-line.ensures in
    let here : c.args.place ≡ c.index-line.result.now.shown = omega (arith, c.shown-2.ensures) in
    rw here (c.last.ensures ∙ sym (found_last (λ e. e.thread) (λ e. e.place) a.threads.items a.shown.items a.slots.items keeps.threads keeps.thread_tails keeps.numbered.threads c.args.thread c.index-line.result.now line))

pub returns : goal.returns
returns c =
    let a = c.args.self.now in
    let keeps = c.requires.keeps in
    let line = slice_get_read a.threads.items _ c.args.thread c.index-line.result.now a.threads.ok.0 (omega (arith, a.threads.ok.0, c.requires.known)) c.index-line.ensures in
    let later : c.index-line.result.now.shown < c.args.place = omega (arith, c.shown.ensures, c.shown-2.ensures) in
    c.held_place.ensures ∙ sym (found_later (λ e. e.thread) (λ e. e.place) a.threads.items a.shown.items a.slots.items keeps.threads keeps.thread_tails keeps.numbered.threads c.args.thread c.args.place c.index-line.result.now line later)
