-- The synchronous channel of textbooks: a sender and a receiver meet.
use Rattle.std.specs.Prelude.{ℕ, ℤ, Bool, true, false, List, [], ◌∷◌, ◌++◌, map, Some}
use Rattle.tm_base.specs.declared.operations.Op.{Op}
use Rattle.tm_base.specs.declared.operations.Op.TheVariants as op
use Rattle.tm_base.specs.declared.replies.Reply.TheVariants as reply
use Rattle.tm_base.specs.States.{Waiter, SyncState}
use Rattle.tm_base.specs.TableRows.{Row, Replies, Grants, HandsOver, Never, queues}

-- The row of a thread's operation on a channel with these senders and receivers that wait.
abbrev pub sync_row : List (Waiter ℤ) → List ℕ → Bool → ℕ → Op → Row
sync_row senders receivers true t (op.Send k) = Replies reply.Closed
sync_row senders (h ∷ receivers) false t (op.Send k) = HandsOver (Some h) (reply.Got k) (SyncState senders receivers false)
sync_row senders [] false t (op.Send k) = queues (SyncState (senders ++ record { thread = t; value = k } ∷ []) [] false)
sync_row (w ∷ senders) receivers closed t op.Recv =
    Grants (reply.Got w.value) (w.thread ∷ []) reply.Ok (SyncState senders receivers closed)
sync_row [] receivers true t op.Recv = Replies reply.Closed
sync_row [] receivers false t op.Recv = queues (SyncState [] (receivers ++ t ∷ []) false)
sync_row senders receivers true t op.Close = Replies reply.Closed
sync_row senders receivers false t op.Close =
    Grants reply.Ok (map (λ w. w.thread) senders ++ receivers) reply.Closed (SyncState [] [] true)
sync_row senders receivers closed t o = Never
