-- Which objects can be made.
use Rattle.std.specs.Prelude.{ℕ, ◌≤◌}
use Rattle.tm_base.specs.declared.limits.TheConstants.{GREATEST_SEMAPHORE_VALUE, MOST_THREADS}
use Rattle.tm_channels.specs.declared.async_channels.TheConstants.{MOST_MESSAGES}
use Rattle.tm_base.specs.declared.kinds.Kind.{Kind}
use Rattle.tm_base.specs.declared.kinds.Kind.TheVariants as kind

-- What the kind itself asks, of an object that this number of threads use.
abbrev pub CanBe : Kind → ℕ → Type 0
CanBe (kind.Sem value) threads = value ≤ GREATEST_SEMAPHORE_VALUE
CanBe (kind.Barrier parties) threads = 1 ≤ parties
CanBe (kind.Async capacity) threads = (1 ≤ capacity) × (capacity ≤ MOST_MESSAGES)
CanBe (kind.Thread own held) threads = (1 ≤ own) × (own ≤ threads)
CanBe k threads = Unit {0}

-- An object of the kind can be made: there are few enough threads, and the kind's own condition holds.
pub record CanMake (k : Kind) (threads : ℕ) : Type 0 where
  pub few : threads ≤ MOST_THREADS
  pub kind : CanBe k threads
