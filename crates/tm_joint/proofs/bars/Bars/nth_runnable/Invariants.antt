use Rattle.std.proofs.Common.{◌≡◌, ◌+◌, ◌-◌, ◌≤◌, filter, length, slice_get}
use Rattle.std.specs.List.{range_with_len}
use Rattle.tm_replay.specs.Choosing.{runnable_threads, runs_at}
use Rattle.tm_joint.proofs.bars.Bars.nth_runnable.Given as goal

-- What is looked for stands at the place that is left, among the runnable threads from here on.
abbrev pub invariant-loop-left : goal.invariant-loop-left
invariant-loop-left l = record {
  within : l.from ≤ 64;
  rest : slice_get (runnable_threads l.self) l.nth ≡ slice_get (filter (runs_at l.self) (range_with_len (l.from + 1) (length l.self - l.from))) l.left;
}

abbrev pub decreases-loop-left : goal.decreases-loop-left
decreases-loop-left l = l.left
