use Rattle.tm_merge.proofs.ShowingLemmas.{thread_there, object_there}
use Rattle.tm_merge.proofs.WalkLemmas.{place_positive, at_positive}
use Rattle.tm_merge.proofs.arrivals.Arrivals.gap.Goals as goal

pub overflow_sub-place : goal.overflow_sub-place
overflow_sub-place c = place_positive c.args.self.now c.requires.keeps c.args.event.now c.requires.held

pub has_place-requires-clause-known : goal.has_place-requires-clause-known
has_place-requires-clause-known c = thread_there c.args.self.now c.requires.keeps c.args.event.now c.requires.held

pub overflow_sub-at : goal.overflow_sub-at
overflow_sub-at c = at_positive c.args.self.now c.requires.keeps c.args.event.now c.requires.held

pub has_at-requires-clause-known : goal.has_at-requires-clause-known
has_at-requires-clause-known c = object_there c.args.self.now c.requires.keeps c.args.event.now c.requires.held
