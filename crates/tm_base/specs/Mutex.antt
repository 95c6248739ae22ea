-- The mutex of textbooks, first in, first out.
use Rattle.std.specs.Prelude.{ℕ, ◌==◌, List, [], ◌∷◌, ◌++◌, Option, Some, None}
use Rattle.tm_base.specs.declared.operations.Op.{Op}
use Rattle.tm_base.specs.declared.operations.Op.TheVariants as op
use Rattle.tm_base.specs.declared.replies.Reply.TheVariants as reply
use Rattle.tm_base.specs.States.{MutexState}
use Rattle.tm_base.specs.TableRows.{Row, Replies, HandsOver, Tests, Never, makes, queues}

-- The row of a thread's operation on a mutex with this owner and queue. An unlock hands the mutex to
-- the oldest waiter.
abbrev pub mutex_row : Option ℕ → List ℕ → ℕ → Op → Row
mutex_row None queue t op.Lock = makes reply.Ok (MutexState (Some t) queue)
mutex_row (Some o) queue t op.Lock = Tests (o == t) (Replies reply.Held) (queues (MutexState (Some o) (queue ++ t ∷ [])))
mutex_row None queue t op.TryLock = makes reply.Ok (MutexState (Some t) queue)
mutex_row (Some o) queue t op.TryLock = Tests (o == t) (Replies reply.Held) (Replies reply.Busy)
mutex_row None queue t op.Unlock = Replies reply.NotOwner
mutex_row (Some o) [] t op.Unlock = Tests (o == t) (makes reply.Ok (MutexState None [])) (Replies reply.NotOwner)
mutex_row (Some o) (h ∷ queue) t op.Unlock =
    Tests (o == t) (HandsOver (Some h) reply.Ok (MutexState (Some h) queue)) (Replies reply.NotOwner)
mutex_row owner queue t o = Never
