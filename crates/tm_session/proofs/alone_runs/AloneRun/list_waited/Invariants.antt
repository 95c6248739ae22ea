use Rattle.std.proofs.Common.{◌≡◌, filter, slice_get}
use Rattle.std.specs.List.{range_with_len}
use Rattle.tm_replay.specs.Bars.{has_waiter}
use Rattle.tm_session.proofs.alone_runs.AloneRun.list_waited.Given as goal

abbrev pub invariant-loop-object : goal.invariant-loop-object
invariant-loop-object l = record {
  waited : l.self.stops.items ≡ filter (λ o. has_waiter (slice_get l.initial.self.collector.joint.state.objects o)) (range_with_len 0 l.object);
  books : l.self.books ≡ l.initial.self.books;
  tickets : l.self.tickets ≡ l.initial.self.tickets;
  collector : l.self.collector ≡ l.initial.self.collector;
  last : l.self.last ≡ l.initial.self.last;
  draw : l.self.draw ≡ l.initial.self.draw;
}
