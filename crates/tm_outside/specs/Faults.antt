-- Counts of calls and of faults, which stand still at 2^64 - 1.
use Rattle.std.specs.Prelude.{ℕ, ◌≤◌}
use Rattle.tm_base.specs.Counters.{next_count}

-- A fault came between the two counts: the later one is the greater, or stands at its last value.
abbrev pub Rose : ℕ → ℕ → Type 0
Rose before now = next_count before ≤ now
