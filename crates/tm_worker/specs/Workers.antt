-- What contracts see of a worker.
use Rattle.std.specs.Prelude.{◌≡◌, ℕ, false, List, [], slice_get, Some}
use Rattle.tm_turn.specs.Passes.{PassView, mine}
use Rattle.tm_worker.specs.Logs.{LogView}
use Rattle.tm_worker.specs.Progresses.{ProgressView}

-- How many calls it may make; how it goes on with its program; and what it recorded: passes, ticket and outbox.
pub record WorkerView (B : Type 0) : Type 0 where
  pub limit : ℕ
  pub progress : ProgressView B
  pub log : LogView

-- The pass is the thread's, of the object with this number, at which it made no event; and it doesn't hold the turn.
pub record IsFreshPass (thread object : ℕ) (p : PassView) : Type 0 where
  pub number : p.number ≡ thread
  pub of : p.label.object ≡ object
  pub none : mine p ≡ []
  pub idle : p.holds ≡ false

-- There is such a pass for each object, by rising number.
pub record AreFreshPasses (thread : ℕ) (passes : List PassView) : Type 0 where
  pub each : (k : ℕ) (p : PassView) → slice_get passes k ≡ Some p → IsFreshPass thread k p
