-- Sets of up to 64 places, as the bits of a number.
use Rattle.std.specs.Prelude.{◌≡◌, ℕ, ◌<◌, ◌≤◌, List, slice_get}
use Rattle.std.specs.Int.{bit_at}
use Rattle.tm_base.specs.declared.bars.Bar.{Bar}
use Rattle.tm_laws.specs.Counts.{bit}
use Rattle.tm_replay.specs.Choosing.{is_runnable_bar}

-- No place from this one on is in the set.
pub record HasNoPlace (set from : ℕ) : Type 0 where
  pub none : (i : ℕ) → from ≤ i → i < 64 → bit_at set i ≡ 0

-- The place is the first from this one on that is in the set.
pub record IsFirstPlace (set from place : ℕ) : Type 0 where
  pub from_on : from ≤ place
  pub within : place < 64
  pub here : bit_at set place ≡ 1
  pub before : (i : ℕ) → from ≤ i → i < place → bit_at set i ≡ 0

-- The set has the place of each runnable thread, from thread 1 at place 0, and no other.
pub record HasRunnable (bars : List Bar) (set : ℕ) : Type 0 where
  pub places : (i : ℕ) → i < 64 → bit_at set i ≡ bit (is_runnable_bar (slice_get bars i))
