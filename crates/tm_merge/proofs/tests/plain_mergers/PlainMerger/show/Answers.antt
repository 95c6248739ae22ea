use Rattle.std.proofs.Common.{refl, sym, subst, arith}
use Rattle.std.proofs.lemmas.Option.{slice_get_read, slice_get_within}
use Rattle.tm_merge.specs.PlainCandidates.{IsNextAt, ShowsOne}
use Rattle.tm_merge.proofs.PlainLemmas.{shows-removed}
use Rattle.tm_merge.proofs.tests.plain_mergers.PlainMerger.show.Goals as goal

pub returns : goal.returns
returns c =
    let i = c.self.inside in
    let at : IsNextAt (record { threads = i.threads; objects = i.objects; shown = i.shown.items; held = i.held.items }) c.args.index = subst (λ v. IsNextAt v c.args.index) (sym c.self.view_is) c.requires in
    let within = slice_get_within i.held.items c.args.index at.entry at.there in
    let read = slice_get_read i.held.items _ c.args.index c.remove-entry.result i.held.ok.0 (omega (arith, i.held.ok.0, within)) c.remove-entry.ensures.value in
    subst (λ v. ShowsOne v (record { threads = i.threads; objects = i.objects; shown = c.push_reserved.new.self.items; held = c.remove-entry.new.self.items })) c.self.view_is
    (shows-removed (record { threads = i.threads; objects = i.objects; shown = i.shown.items; held = i.held.items }) c.args.index c.remove-entry.result
    (record { threads = i.threads; objects = i.objects; shown = c.push_reserved.new.self.items; held = c.remove-entry.new.self.items })
    at read refl refl c.push_reserved.ensures.items c.remove-entry.ensures.items)
