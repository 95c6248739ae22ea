use Rattle.std.proofs.Common.{◌≡◌, ◌-◌, filter, slice_get}
use Rattle.std.specs.List.{range_with_len}
use Rattle.tm_session.specs.CutThreads.{test_of}
use Rattle.tm_session.proofs.endings.cut_threads.Given as goal

abbrev pub invariant-loop-thread : goal.invariant-loop-thread
invariant-loop-thread l = (l.threads.items ≡ filter (λ t. test_of l.cut (slice_get (l.joint.state).threads t)) (range_with_len 1 (l.thread - 1)))
