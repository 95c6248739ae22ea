-- What the stored intake stands for, and what it keeps.
use Rattle.std.specs.Prelude.{ℕ, ◌-◌, ◌≤◌, ◌++◌, length, take, drop}
use Rattle.tm_merge.specs.declared.arrivals.Arrivals.{Arrivals}
use Rattle.tm_merge.specs.declared.intake.Intake.{Intake}
use Rattle.tm_merge.specs.MergerViews.{MergerView}
use Rattle.tm_merge.specs.ReadyThreads.{KeepsAll}
use Rattle.tm_merge.specs.StoredArrivals.{occupants}

-- The arrivals, of which this many of those that the lines count as shown are shown. The others follow, and
-- are held.
abbrev pub partly_shown : Arrivals → ℕ → MergerView
partly_shown a n = record { threads = length a.threads.items - 1; objects = length a.objects.items; shown = take n a.shown.items; held = drop n a.shown.items ++ occupants a.slots.items }

abbrev pub intake_view : Intake → MergerView
intake_view i = partly_shown i.arrivals i.shown

-- What every intake keeps.
pub record KeepsIntake (i : Intake) : Type 0 where
  pub all : KeepsAll i.arrivals
  pub within : i.shown ≤ length i.arrivals.shown.items
