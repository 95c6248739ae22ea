-- The asynchronous channel of textbooks, with room for a number of messages, first in, first out.
use Rattle.std.specs.Prelude.{ℕ, ℤ, Bool, true, false, nat_lt, List, [], ◌∷◌, ◌++◌, map, length, Some}
use Rattle.tm_base.specs.declared.operations.Op.{Op}
use Rattle.tm_base.specs.declared.operations.Op.TheVariants as op
use Rattle.tm_base.specs.declared.replies.Reply.TheVariants as reply
use Rattle.tm_base.specs.States.{Waiter, AsyncState}
use Rattle.tm_base.specs.TableRows.{Row, Replies, Grants, HandsOver, Tests, Never, makes, queues}

-- The row of a thread's operation on a channel of this capacity with these messages, and these senders
-- and receivers that wait.
abbrev pub async_row : ℕ → List ℤ → List (Waiter ℤ) → List ℕ → Bool → ℕ → Op → Row
async_row capacity messages senders receivers true t (op.Send k) = Replies reply.Closed
async_row capacity messages senders (h ∷ receivers) false t (op.Send k) =
    HandsOver (Some h) (reply.Got k) (AsyncState messages senders receivers false)
async_row capacity messages senders [] false t (op.Send k) =
    Tests (nat_lt (length messages) capacity) (makes reply.Ok (AsyncState (messages ++ k ∷ []) senders [] false))
    (queues (AsyncState messages (senders ++ record { thread = t; value = k } ∷ []) [] false))
async_row capacity (m ∷ messages) (w ∷ senders) receivers closed t op.Recv =
    Grants (reply.Got m) (w.thread ∷ []) reply.Ok (AsyncState (messages ++ w.value ∷ []) senders receivers closed)
async_row capacity (m ∷ messages) [] receivers closed t op.Recv = makes (reply.Got m) (AsyncState messages [] receivers closed)
async_row capacity [] senders receivers true t op.Recv = Replies reply.Closed
async_row capacity [] senders receivers false t op.Recv = queues (AsyncState [] senders (receivers ++ t ∷ []) false)
async_row capacity messages senders receivers true t op.Close = Replies reply.Closed
async_row capacity messages senders receivers false t op.Close =
    Grants reply.Ok (map (λ w. w.thread) senders ++ receivers) reply.Closed (AsyncState messages [] [] true)
async_row capacity messages senders receivers closed t o = Never
