use Rattle.std.proofs.Common.{◌==◌, arith}
use Rattle.tm_merge.proofs.ReadyThreadsLemmas.{lists-shows, only-shows}
use Rattle.tm_merge.proofs.ShowingLemmas.{object_there}
use Rattle.tm_merge.proofs.arrivals.Arrivals.show.Goals as goal

pub list_next_at-requires-clause-known : goal.list_next_at-requires-clause-known
list_next_at-requires-clause-known c =
    let there = object_there c.args.self.now c.requires.all.keeps c.args.candidate.entry c.requires.next.next.ready.held in
    omega (arith, there, c.move_shown.ensures.shows.same_objects)

pub list_next_at-requires-clause-lists : goal.list_next_at-requires-clause-lists
list_next_at-requires-clause-lists c =
    lists-shows c.args.self.now c.move_shown.new.self c.args.candidate.entry c.requires.all.lists c.requires.all.keeps c.move_shown.ensures.keeps c.move_shown.ensures.shows c.move_shown.ensures.listed

pub unlist_if_not_ready-requires-clause-only : goal.unlist_if_not_ready-requires-clause-only
unlist_if_not_ready-requires-clause-only c =
    c.list_next_at.ensures.only (λ t. t == c.args.candidate.entry.thread)
    (only-shows c.args.self.now c.move_shown.new.self c.args.candidate.entry c.requires.all.only c.move_shown.ensures.shows c.move_shown.ensures.listed)
