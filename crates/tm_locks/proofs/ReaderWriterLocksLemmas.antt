-- What a reader-writer lock keeps of its readers and of those that wait.
use Rattle.std.proofs.Common.{◌≡◌, ℕ, ◌≤◌, Bool, false, not, ◌==◌, List, [], ◌∷◌, ◌++◌, sym, ap, ◌∙◌, subst, append_assoc, append-nil}
use Rattle.tm_base.specs.States.{Waiter, is_queued}
use Rattle.tm_queues.specs.WaitQueues.{QueueView, IsQueue, pushed}
use Rattle.tm_queues.specs.ValuedQueues.{ValuedView, queued_threads, joined, nobody_queued}
use Rattle.tm_queues.proofs.WaitQueueLemmas.{IsQueue-push}
use Rattle.tm_queues.proofs.ValuedQueuesLemmas.{threads-append}
use Rattle.tm_locks.specs.ReaderWriterLocks.{without}
use Rattle.tm_locks.proofs.ReadersLemmas.{queued-both, IsQueue-prefix, IsQueue-between, IsQueue-filter}

-- a reader left
pub once-without : (readers after : QueueView) (t : ℕ) (waiting : List ℕ) → after ≡ without readers t → IsQueue readers.threads (readers.queue ++ waiting) → IsQueue after.threads (after.queue ++ waiting)
once-without readers after t waiting e q =
    subst (λ (v : QueueView). IsQueue v.threads (v.queue ++ waiting)) (sym e) (IsQueue-filter readers.threads (λ x. not (x == t)) readers.queue waiting q)

-- a reader came
pub once-pushed : (readers after : QueueView) (t : ℕ) (waiting : List ℕ) → after ≡ pushed readers t → IsQueue readers.threads (readers.queue ++ waiting)
    → t ≤ readers.threads → is_queued readers.queue t ≡ false → is_queued waiting t ≡ false → IsQueue after.threads (after.queue ++ waiting)
once-pushed readers after t waiting e q known new other =
    subst (λ (v : QueueView). IsQueue v.threads (v.queue ++ waiting)) (sym e) (IsQueue-between readers.threads readers.queue waiting t q known new other)

-- a thread waits
pub once-joined : (threads : ℕ) (readers : List ℕ) (queue after : ValuedView Bool) (t : ℕ) (writes : Bool) → after ≡ joined queue t writes → IsQueue threads (readers ++ queued_threads queue.queue)
    → t ≤ threads → is_queued readers t ≡ false → is_queued (queued_threads queue.queue) t ≡ false → IsQueue threads (readers ++ queued_threads after.queue)
once-joined threads readers queue after t writes e q known new other =
    let w : List (Waiter Bool) = (record { thread = t; value = writes }) ∷ [] in
    let longer : (readers ++ queued_threads queue.queue) ++ t ∷ [] ≡ readers ++ queued_threads (queue.queue ++ w) =
    append_assoc readers (queued_threads queue.queue) (t ∷ []) ∙ ap (λ l. readers ++ l) (sym (threads-append queue.queue w)) in
    let end = IsQueue-push threads (readers ++ queued_threads queue.queue) t q known (queued-both readers (queued_threads queue.queue) t new other) in
    subst (λ (v : ValuedView Bool). IsQueue threads (readers ++ queued_threads v.queue)) (sym e) (subst (IsQueue threads) longer end)

-- nobody waits any more
pub once-nobody : (threads : ℕ) (readers waiting : List ℕ) (after : ValuedView Bool) (n : ℕ) → after ≡ nobody_queued n → IsQueue threads (readers ++ waiting) → IsQueue threads (readers ++ queued_threads after.queue)
once-nobody threads readers waiting after n e q =
    subst (λ (v : ValuedView Bool). IsQueue threads (readers ++ queued_threads v.queue)) (sym e) (subst (IsQueue threads) (sym (append-nil readers)) (IsQueue-prefix threads readers waiting q))
