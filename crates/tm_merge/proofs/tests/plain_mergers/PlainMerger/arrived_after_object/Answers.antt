use Rattle.std.proofs.Common.{◌≡◌, suc, ◌==◌, ◌&&◌, sym, ap, ◌∙◌}
use Rattle.tm_merge.specs.Places.{at_object}
use Rattle.tm_merge.proofs.PlainLemmas.{find-in_first, find-in_second}
use Rattle.tm_merge.proofs.tests.plain_mergers.PlainMerger.arrived_after_object.Goals as goal

pub returns-in-Some : goal.returns-in-Some
returns-in-Some c =
    let v = c.args.self.now in
    let shown : c.as_slice.result.now ≡ v.shown = c.as_slice.ensures.value ∙ ap (λ w. w.shown) c.self.view_is in
    sym (find-in_first (λ e. e.object == c.args.object && e.at == suc c.args.at) v.shown v.held c.in-Some.event (sym (ap (λ es. at_object es c.args.object (suc c.args.at)) shown) ∙ sym c.after_object.ensures ∙ c.in-Some.is))

pub returns-in-None : goal.returns-in-None
returns-in-None c =
    let v = c.args.self.now in
    let shown : c.as_slice.result.now ≡ v.shown = c.as_slice.ensures.value ∙ ap (λ w. w.shown) c.self.view_is in
    let held : c.as_slice-in-None.result.now ≡ v.held = c.as_slice-in-None.ensures.value ∙ ap (λ w. w.held) c.self.view_is in
    c.after_object-in-None.ensures ∙ ap (λ es. at_object es c.args.object (suc c.args.at)) held
    ∙ sym (find-in_second (λ e. e.object == c.args.object && e.at == suc c.args.at) v.shown v.held (sym (ap (λ es. at_object es c.args.object (suc c.args.at)) shown) ∙ sym c.after_object.ensures ∙ c.in-None.is))
