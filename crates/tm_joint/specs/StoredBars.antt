-- How bars are stored: beside them stands how many threads haven't ended, how many are runnable, and which.
use Rattle.std.specs.Prelude.{◌≡◌, ◌≤◌, Bool, not, count_by, length}
use Rattle.tm_base.specs.declared.bars.Bar.{Bar}
use Rattle.tm_base.specs.declared.limits.TheConstants.{MOST_THREADS}
use Rattle.tm_replay.specs.Bars.{is_ended, is_runnable}
use Rattle.tm_joint.specs.Bits.{HasRunnable}
use Rattle.tm_joint.specs.declared.bars.Bars.TheInside.{Inside}

abbrev pub goes_on : Bar → Bool
goes_on b = not (is_ended b)

pub record KeepsBars (b : Inside) : Type 0 where
  pub going : b.going ≡ count_by goes_on b.bars.items
  pub runnable : b.runnable ≡ count_by is_runnable b.bars.items
  pub few : length b.bars.items ≤ MOST_THREADS
  pub running : HasRunnable b.bars.items b.running
