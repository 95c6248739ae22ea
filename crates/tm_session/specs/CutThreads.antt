-- The tests that pick the threads that a last line names.
use Rattle.std.specs.Prelude.{Bool, Option}
use Rattle.tm_replay.specs.JointStates.{ThreadState}
use Rattle.tm_replay.specs.Ends.{is_cut, is_cut_by_limit}
use Rattle.tm_session.specs.declared.endings.Cut.{Cut}
use Rattle.tm_session.specs.declared.endings.Cut.TheVariants as cut

-- The test of a thread that was cut so.
abbrev pub test_of : Cut → Option ThreadState → Bool
test_of cut.Any = is_cut
test_of (cut.ByLimit limit) = is_cut_by_limit limit
