-- What the bars of a joint state show.
use Rattle.std.proofs.Common.{◌≡◌, ℕ, Some, slice_get, ap}
use Rattle.tm_replay.specs.JointStates.{JointState, ThreadState}
use Rattle.tm_replay.specs.Bars.{bar_in, bar_of, bar_for}

-- a thread's bar is that of its phase
pub bar_of-seat : (j : JointState) (t : ℕ) (s : ThreadState) → slice_get j.threads t ≡ Some s → bar_of j t ≡ bar_in j t s.phase
bar_of-seat j t s seat = ap (bar_for j t) seat
