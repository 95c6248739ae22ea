use Rattle.std.proofs.Common.{is_some, sym, ◌∙◌, ap}
use Rattle.tm_merge.specs.Holding.{gap}
use Rattle.tm_merge.specs.StoredArrivals.{view_of}
use Rattle.tm_merge.proofs.NumberingLemmas.{none_from}
use Rattle.tm_merge.proofs.ShowingLemmas.{thread_there, object_there}
use Rattle.tm_merge.proofs.WalkLemmas.{place_positive, at_positive, behind, behind_in_thread}
use Rattle.tm_merge.proofs.arrivals.Arrivals.waits_for.Goals as goal

pub overflow_sub-event : goal.overflow_sub-event
overflow_sub-event c = place_positive c.args.self.now c.requires.keeps c.args.event.now c.requires.held

pub held_place-requires-clause-known : goal.held_place-requires-clause-known
held_place-requires-clause-known c = thread_there c.args.self.now c.requires.keeps c.args.event.now c.requires.held

pub overflow_sub-event-in-None : goal.overflow_sub-event-in-None
overflow_sub-event-in-None c = at_positive c.args.self.now c.requires.keeps c.args.event.now c.requires.held

pub held_object-requires-clause-known : goal.held_object-requires-clause-known
held_object-requires-clause-known c = object_there c.args.self.now c.requires.keeps c.args.event.now c.requires.held

pub returns-in-Some : goal.returns-in-Some
returns-in-Some c =
    let a = c.args.self.now in
    let e = c.args.event.now in
    let no_gap = none_from (gap (view_of a) e) (ap is_some (sym c.gap.ensures) ∙ sym c.is_some.ensures ∙ c.if-is_some.false) in
    behind_in_thread a c.requires.keeps e c.requires.held no_gap c.in-Some.before (sym c.held_place.ensures ∙ c.in-Some.is)

pub returns-in-None : goal.returns-in-None
returns-in-None c =
    let a = c.args.self.now in
    let e = c.args.event.now in
    let no_gap = none_from (gap (view_of a) e) (ap is_some (sym c.gap.ensures) ∙ sym c.is_some.ensures ∙ c.if-is_some.false) in
    behind a c.requires.keeps e c.requires.held no_gap c.requires.settled (sym c.held_place.ensures ∙ c.in-None.is) c.held_object.result c.held_object.ensures
