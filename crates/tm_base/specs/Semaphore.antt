-- Dijkstra's semaphore: a number that is never negative, and P and V that are indivisible; P waits
-- while the number is 0. Waiters are served first in, first out.
use Rattle.std.specs.Prelude.{ℕ, ◌+◌, ◌-◌, ◌==◌, nat_lt, List, [], ◌∷◌, ◌++◌, Some}
use Rattle.tm_base.specs.declared.operations.Op.{Op}
use Rattle.tm_base.specs.declared.operations.Op.TheVariants as op
use Rattle.tm_base.specs.declared.replies.Reply.TheVariants as reply
use Rattle.tm_base.specs.declared.limits.TheConstants.{GREATEST_SEMAPHORE_VALUE}
use Rattle.tm_base.specs.States.{SemState}
use Rattle.tm_base.specs.TableRows.{Row, Replies, HandsOver, Tests, Never, makes, queues}

-- The row of a thread's operation on a semaphore with this value and queue. A V that nobody waits for
-- answers `full` at the greatest value.
abbrev pub sem_row : ℕ → List ℕ → ℕ → Op → Row
sem_row value queue t op.P = Tests (nat_lt 0 value) (makes reply.Ok (SemState (value - 1) queue)) (queues (SemState value (queue ++ t ∷ [])))
sem_row value queue t op.TryP = Tests (nat_lt 0 value) (makes reply.Ok (SemState (value - 1) queue)) (Replies reply.Zero)
sem_row value (h ∷ queue) t op.V = HandsOver (Some h) reply.Ok (SemState value queue)
sem_row value [] t op.V = Tests (value == GREATEST_SEMAPHORE_VALUE) (Replies reply.Full) (makes reply.Ok (SemState (value + 1) []))
sem_row value queue t o = Never
