use Rattle.std.proofs.Common.{◌≡◌, map, take, length}
use Rattle.tm_replay.specs.JointStates.{first_object_state}
use Rattle.tm_session.specs.Noting.{object_state_of}
use Rattle.tm_session.specs.Records.{AreFresh}
use Rattle.tm_session.proofs.alone_runs.make_books.Given as goal

abbrev pub invariant-loop-object : goal.invariant-loop-object
invariant-loop-object l = record {
  places : map object_state_of l.books.items ≡ map (λ d. first_object_state (length l.exercise.programs) d.kind) (take l.object l.exercise.objects);
  fresh : AreFresh l.books.items;
  count : length l.books.items ≡ l.object;
}
