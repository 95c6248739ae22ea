use Rattle.std.proofs.Common.{◌≡◌, ◌<◌, ℕ, false}
use Rattle.tm_worker.specs.Standings.{is_own_at}
use Rattle.tm_worker.proofs.steps.own_object.Given as goal

abbrev pub invariant-loop-object : goal.invariant-loop-object
invariant-loop-object l = (k : ℕ) → k < l.object-index → is_own_at l.shared l.thread k ≡ false
