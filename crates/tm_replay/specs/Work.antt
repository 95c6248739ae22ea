-- How much a run still can do under a limit of calls, as a number that every event lowers, and numbers that
-- bound its places and stamps.
use Rattle.std.specs.Prelude.{◌≡◌, ℕ, ◌+◌, ◌-◌, ◌*◌, ◌≤◌, if◌then◌else◌, sum_by, slice_get, Some}
use Rattle.tm_replay.specs.declared.phases.Phase.{Phase}
use Rattle.tm_replay.specs.declared.phases.Phase.TheVariants as phase
use Rattle.tm_replay.specs.JointStates.{JointState, ThreadState, ObjectState}

-- The events that a thread can still make which has made so many calls: two for each call that the limit still
-- allows, and those of its begin and its end.
abbrev pub work_in : ℕ → Phase → ℕ → ℕ
work_in limit phase.Main made = 0
work_in limit phase.NotBegun made = 2 * (limit - made) + 3
work_in limit phase.Free made = 2 * (limit - made) + 1
work_in limit (phase.Waits object) made = 2 * (limit - made) + 2
work_in limit (phase.Ended cut) made = 0

abbrev pub work_of : ℕ → ThreadState → ℕ
work_of limit s = work_in limit s.phase s.made

-- One stop, until it is made.
abbrev pub stop_of : ObjectState → ℕ
stop_of b = if b.view.state.stopped then 0 else 1

abbrev pub work : ℕ → JointState → ℕ
work limit j = sum_by (work_of limit) j.threads + sum_by stop_of j.objects

-- After n events no place or stamp is greater.
pub record IsCounted (n : ℕ) (j : JointState) : Type 0 where
  pub threads : (t : ℕ) (s : ThreadState) → slice_get j.threads t ≡ Some s → (s.next ≤ n + 1) × (s.stamp ≤ n) × (s.made ≤ n)
  pub objects : (o : ℕ) (b : ObjectState) → slice_get j.objects o ≡ Some b → (b.at ≤ n) × (b.stamp ≤ n)
