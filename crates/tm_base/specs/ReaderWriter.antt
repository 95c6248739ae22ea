-- The reader-writer lock of textbooks, with one queue in order of arrival.
use Rattle.std.specs.Prelude.{ℕ, Bool, true, false, not, ◌&&◌, ◌||◌, ◌==◌, is_none, List, [], ◌∷◌, ◌++◌, map, filter, take_while, drop, length, Option, Some, None}
use Rattle.tm_base.specs.declared.operations.Op.{Op}
use Rattle.tm_base.specs.declared.operations.Op.TheVariants as op
use Rattle.tm_base.specs.declared.replies.Reply.TheVariants as reply
use Rattle.tm_base.specs.States.{Waiter, RwState, is_queued}
use Rattle.tm_base.specs.TableRows.{Row, Replies, Grants, Tests, Never, makes, queues}

abbrev pub is_empty : {A : Type 0} → List A → Bool
is_empty [] = true
is_empty (x ∷ xs) = false

-- The thread is the writer.
abbrev pub is_writer : Option ℕ → ℕ → Bool
is_writer None t = false
is_writer (Some w) t = w == t

-- The readers at the head of the queue, up to the first writer.
abbrev pub first_readers : List (Waiter Bool) → List ℕ
first_readers queue = map (λ w. w.thread) (take_while (λ w. not w.value) queue)

-- The queue after them.
abbrev pub after_readers : List (Waiter Bool) → List (Waiter Bool)
after_readers queue = drop (length (take_while (λ w. not w.value) queue)) queue

-- The row, with reply `ok`, in which who may go in is admitted: the writer at the head where nobody is
-- in, or where there is no writer the readers at the head.
abbrev pub admitting_row : List ℕ → Option ℕ → List (Waiter Bool) → Row
admitting_row readers writer [] = makes reply.Ok (RwState readers writer [])
admitting_row readers (Some w) queue = makes reply.Ok (RwState readers (Some w) queue)
admitting_row readers None (w ∷ queue) =
    Tests w.value (Tests (is_empty readers) (Grants reply.Ok (w.thread ∷ []) reply.Ok (RwState [] (Some w.thread) queue)) (makes reply.Ok (RwState readers None (w ∷ queue))))
    (Grants reply.Ok (first_readers (w ∷ queue)) reply.Ok (RwState (readers ++ first_readers (w ∷ queue)) None (after_readers (w ∷ queue))))

-- The row of a thread's operation on a lock with these readers, this writer and this queue.
abbrev pub rw_row : List ℕ → Option ℕ → List (Waiter Bool) → ℕ → Op → Row
rw_row readers writer queue t op.RLock =
    Tests (is_queued readers t || is_writer writer t) (Replies reply.Held)
    (Tests (is_none writer && is_empty queue) (makes reply.Ok (RwState (readers ++ t ∷ []) writer queue))
    (queues (RwState readers writer (queue ++ record { thread = t; value = false } ∷ []))))
rw_row readers writer queue t op.WLock =
    Tests (is_queued readers t || is_writer writer t) (Replies reply.Held)
    (Tests (is_none writer && is_empty readers && is_empty queue) (makes reply.Ok (RwState readers (Some t) queue))
    (queues (RwState readers writer (queue ++ record { thread = t; value = true } ∷ []))))
rw_row readers writer queue t op.RUnlock =
    Tests (is_queued readers t) (admitting_row (filter (λ x. not (x == t)) readers) writer queue) (Replies reply.NotOwner)
rw_row readers writer queue t op.WUnlock = Tests (is_writer writer t) (admitting_row readers None queue) (Replies reply.NotOwner)
rw_row readers writer queue t o = Never
