-- The readers at the head of a queue, one after another; and queues in which no thread stands twice.
use Rattle.std.proofs.Common.{◌≡◌, ℕ, zero, suc, ◌+◌, ◌-◌, ◌<◌, ◌≤◌, ◌==◌, Bool, true, false, not, cond, List, [], ◌∷◌, ◌++◌, length, filter, slice_set, Option, Some, refl, sym, ap, ◌∙◌, subst, arith, append_assoc, append-nil}
use Rattle.std.specs.List.{take_while}
use Rattle.std.proofs.lemmas.Bool.{or_parts, or_from}
use Rattle.std.proofs.lemmas.Bool.Decides.{nat_tests}
use Rattle.std.proofs.lemmas.List.Sums.{take_while-cons}
use Rattle.tm_base.specs.declared.replies.Reply.{Reply}
use Rattle.tm_base.specs.States.{Waiter, is_queued, grant_all}
use Rattle.tm_base.specs.ReaderWriter.{first_readers, after_readers}
use Rattle.tm_queues.specs.WaitQueues.{IsQueue}
use Rattle.tm_queues.specs.ValuedQueues.{queued_threads}
use Rattle.tm_queues.proofs.WaitQueueLemmas.{IsQueue-push}
use Rattle.tm_queues.proofs.ValuedQueuesLemmas.{is_queued-append}
use Rattle.tm_locks.specs.ReaderWriterLocks.{passed_by}

-- the waiters that are taken, with the one at the head
taken : (w : Waiter Bool) (queue : List (Waiter Bool)) → take_while (λ w. not w.value) (w ∷ queue) ≡ cond (not w.value) (w ∷ take_while (λ w. not w.value) queue) []
taken w queue = take_while-cons (λ (v : Waiter Bool). not v.value) w queue

-- a reader at the head is the first of them
pub first_readers-reader : (w : Waiter Bool) (queue : List (Waiter Bool)) → w.value ≡ false → first_readers (w ∷ queue) ≡ w.thread ∷ first_readers queue
first_readers-reader w queue e = rw (taken w queue, e) refl

pub after_readers-reader : (w : Waiter Bool) (queue : List (Waiter Bool)) → w.value ≡ false → after_readers (w ∷ queue) ≡ after_readers queue
after_readers-reader w queue e = rw (taken w queue, e) refl

-- with a writer at the head there are none
pub first_readers-writer : (w : Waiter Bool) (queue : List (Waiter Bool)) → w.value ≡ true → first_readers (w ∷ queue) ≡ []
first_readers-writer w queue e = rw (taken w queue, e) refl

pub after_readers-writer : (w : Waiter Bool) (queue : List (Waiter Bool)) → w.value ≡ true → after_readers (w ∷ queue) ≡ w ∷ queue
after_readers-writer w queue e = rw (taken w queue, e) refl

-- the queue after so many passed by
abbrev pub passed : ℕ → ℕ → List ℕ → List ℕ
passed t zero queue = queue
passed t (suc n) queue = passed t n (passed_by queue t)

-- the others of a queue
abbrev pub others : ℕ → List ℕ → List ℕ
others t queue = filter (λ x. not (x == t)) queue

-- once all of the first have passed by, they stand at the end, but for the thread
passed-prefix : (t : ℕ) (first rest : List ℕ) → passed t (length first) (first ++ rest) ≡ rest ++ others t first
passed-prefix t [] rest = sym (append-nil rest)
passed-prefix t (x ∷ first) rest = go (x == t) (passed-prefix t first)
  where
    go : (b : Bool) → ((more : List ℕ) → passed t (length first) (first ++ more) ≡ more ++ others t first)
        → passed t (length first) (cond b (first ++ rest) ((first ++ rest) ++ x ∷ [])) ≡ rest ++ cond (not b) (x ∷ others t first) (others t first)
    go true rec = rec rest
    go false rec = rw append_assoc (rec (rest ++ x ∷ []) ∙ append_assoc rest (x ∷ []) (others t first))

pub passed-all : (t : ℕ) (queue : List ℕ) → passed t (length queue) queue ≡ others t queue
passed-all t queue = ap (λ q. passed t (length queue) q) (sym (append-nil queue)) ∙ passed-prefix t queue []

pub IsQueue-passed_by : (threads t : ℕ) (queue : List ℕ) → IsQueue threads queue → IsQueue threads (passed_by queue t)
IsQueue-passed_by threads t [] q = tt
IsQueue-passed_by threads t (x ∷ queue) q = go (x == t)
  where
    go : (b : Bool) → IsQueue threads (cond b queue (queue ++ x ∷ []))
    go true = q.2
    go false = IsQueue-push threads queue x q.2 q.0 q.1

-- who isn't in a queue isn't in a part of it
queued-parts : (xs ys : List ℕ) (t : ℕ) → is_queued (xs ++ ys) t ≡ false → (is_queued xs t ≡ false) × (is_queued ys t ≡ false)
queued-parts xs ys t h = or_parts (is_queued xs t) (is_queued ys t) (sym (is_queued-append xs ys t) ∙ h)

pub queued-both : (xs ys : List ℕ) (t : ℕ) → is_queued xs t ≡ false → is_queued ys t ≡ false → is_queued (xs ++ ys) t ≡ false
queued-both xs ys t h k = is_queued-append xs ys t ∙ or_from (is_queued xs t) (is_queued ys t) h k

-- a prefix of a queue
pub IsQueue-prefix : (threads : ℕ) (xs ys : List ℕ) → IsQueue threads (xs ++ ys) → IsQueue threads xs
IsQueue-prefix threads [] ys q = tt
IsQueue-prefix threads (x ∷ xs) ys q = (q.0, (queued-parts xs ys x q.1).0, IsQueue-prefix threads xs ys q.2)

-- two numbers are told apart either way round
apart : (x y : ℕ) → (x == y) ≡ false → (y == x) ≡ false
apart x y h = grind (arith, nat_tests)

-- a thread that stands in the queue isn't before that place
pub IsQueue-middle : (threads : ℕ) (xs : List ℕ) (t : ℕ) (ys : List ℕ) → IsQueue threads (xs ++ t ∷ ys) → (t ≤ threads) × (is_queued xs t ≡ false)
IsQueue-middle threads [] t ys q = (q.0, refl)
IsQueue-middle threads (x ∷ xs) t ys q =
    let rest = IsQueue-middle threads xs t ys q.2 in
    (rest.0, or_from (x == t) (is_queued xs t) (apart t x (or_parts (t == x) (is_queued ys x) (queued-parts xs (t ∷ ys) x q.1).1).0) rest.1)

-- a new thread comes between two parts
pub IsQueue-between : (threads : ℕ) (xs ys : List ℕ) (t : ℕ) → IsQueue threads (xs ++ ys) → t ≤ threads → is_queued xs t ≡ false → is_queued ys t ≡ false → IsQueue threads ((xs ++ t ∷ []) ++ ys)
IsQueue-between threads [] ys t q known new other = (known, other, q)
IsQueue-between threads (x ∷ xs) ys t q known new other =
    let parts = queued-parts xs ys x q.1 in
    let ne = or_parts (x == t) (is_queued xs t) new in
    (q.0, queued-both (xs ++ t ∷ []) ys x (queued-both xs (t ∷ []) x parts.0 (or_from (t == x) false (apart x t ne.0) refl)) parts.1, IsQueue-between threads xs ys t q.2 known ne.1 other)

-- some of the first leave
queued-filter : (p : ℕ → Bool) (xs : List ℕ) (t : ℕ) → is_queued xs t ≡ false → is_queued (filter p xs) t ≡ false
queued-filter p [] t h = refl
queued-filter p (x ∷ xs) t h = go (p x) (queued-filter p xs t (or_parts (x == t) (is_queued xs t) h).1)
  where
    go : (b : Bool) → is_queued (filter p xs) t ≡ false → is_queued (cond b (x ∷ filter p xs) (filter p xs)) t ≡ false
    go true rest = or_from (x == t) (is_queued (filter p xs) t) (or_parts (x == t) (is_queued xs t) h).0 rest
    go false rest = rest

pub IsQueue-filter : (threads : ℕ) (p : ℕ → Bool) (xs ys : List ℕ) → IsQueue threads (xs ++ ys) → IsQueue threads (filter p xs ++ ys)
IsQueue-filter threads p [] ys q = q
IsQueue-filter threads p (x ∷ xs) ys q = go (p x) (IsQueue-filter threads p xs ys q.2)
  where
    go : (b : Bool) → IsQueue threads (filter p xs ++ ys) → IsQueue threads (cond b (x ∷ filter p xs) (filter p xs) ++ ys)
    go true rest =
        let parts = queued-parts xs ys x q.1 in
        (q.0, queued-both (filter p xs) ys x (queued-filter p xs x parts.0) parts.1, rest)
    go false rest = rest

-- the oldest of the queue goes in, to read
module _ (t : ℕ) (queue rest : List (Waiter Bool)) (e : queue ≡ (record { thread = t; value = false }) ∷ rest) where
  pub admitted-inside : (readers : List ℕ) → (readers ++ t ∷ []) ++ first_readers rest ≡ readers ++ first_readers queue
  admitted-inside readers = append_assoc readers (t ∷ []) (first_readers rest) ∙ ap (λ q. readers ++ q) (sym (ap first_readers e ∙ first_readers-reader (record { thread = t; value = false }) rest refl))

  pub admitted-left : after_readers rest ≡ after_readers queue
  admitted-left = sym (ap after_readers e ∙ after_readers-reader (record { thread = t; value = false }) rest refl)

  pub admitted-granted : (r : Reply) (granted : List (Option Reply)) → grant_all (first_readers rest) r (slice_set granted t (Some r)) ≡ grant_all (first_readers queue) r granted
  admitted-granted r granted = sym (ap (λ q. grant_all q r granted) (ap first_readers e ∙ first_readers-reader (record { thread = t; value = false }) rest refl))

  pub admitted-first : (threads : ℕ) (readers : List ℕ) → IsQueue threads (readers ++ queued_threads queue) → (t ≤ threads) × (is_queued readers t ≡ false)
  admitted-first threads readers q = IsQueue-middle threads readers t (queued_threads rest) (subst (λ (w : List (Waiter Bool)). IsQueue threads (readers ++ queued_threads w)) e q)

  pub admitted-once : (threads : ℕ) (readers : List ℕ) → IsQueue threads (readers ++ queued_threads queue) → IsQueue threads ((readers ++ t ∷ []) ++ queued_threads rest)
  admitted-once threads readers q =
      subst (IsQueue threads) (sym (append_assoc readers (t ∷ []) (queued_threads rest))) (subst (λ (w : List (Waiter Bool)). IsQueue threads (readers ++ queued_threads w)) e q)

-- at the start all have still to pass by, and then one after another
pub passed-start : (t n : ℕ) (queue : List ℕ) → n ≡ length queue → passed t (n - 0) queue ≡ others t queue
passed-start t n queue e = let all : n - 0 ≡ length queue = omega arith in ap (λ k. passed t k queue) all ∙ passed-all t queue

pub passed-next : (t n i : ℕ) (queue next : List ℕ) → i < n → next ≡ passed_by queue t → passed t (n - (i + 1)) next ≡ passed t (n - i) queue
passed-next t n i queue next less e =
    let one_more : n - i ≡ suc (n - (i + 1)) = omega arith in
    ap (λ q. passed t (n - (i + 1)) q) e ∙ sym (ap (λ k. passed t k queue) one_more)
