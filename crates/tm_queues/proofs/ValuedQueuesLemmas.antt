-- Queues with a value for each thread.
use Rattle.std.proofs.Common.{◌≡◌, ℕ, zero, suc, ◌+◌, ◌<◌, ◌≤◌, false, List, [], ◌∷◌, ◌++◌, length, map, drop, ◌||◌, ◌==◌, Option, None, Some, slice_get, slice_set, get_or, eqb, refl, sym, ap, ◌∙◌, arith}
use Rattle.std.proofs.lemmas.Bool.{or_parts}
use Rattle.std.proofs.lemmas.Bool.Decides.{nat_tests}
use Rattle.std.proofs.lemmas.List.{length-map, map-append}
use Rattle.std.proofs.lemmas.List.Folds.{list_any-append}
use Rattle.std.proofs.lemmas.Option.{slice_get_read}
use Rattle.std.proofs.Math.ListN.{length-set}
use Rattle.tm_queues.proofs.WaitQueueLemmas.{IsQueue-push}
use Rattle.tm_base.specs.States.{Waiter, is_queued}
use Rattle.tm_queues.specs.WaitQueues.{QueueView, IsQueue, pushed}
use Rattle.tm_queues.specs.ValuedQueues.{ValuedView, queued_threads, joined}
use Rattle.tm_queues.specs.StoredValuedQueues.{before, with_values, valued_view, KeepsValues}

-- a place of the list has an element
found : {A : Type 0} (xs : List A) (i : ℕ) → i < length xs → (x : A) × (slice_get xs i ≡ Some x)
found [] i h = absurd (omega (arith, h))
found (x ∷ xs) zero h = (x, refl)
found (x ∷ xs) (suc i) h = found xs i (omega (arith, h))

-- one place is set, and another stays as it is
other_place : {A : Type 0} (xs : List A) (i k : ℕ) (v : A) → eqb k i ≡ false → slice_get (slice_set xs i v) k ≡ slice_get xs k
other_place [] i k v h = refl
other_place (x ∷ xs) zero zero v h = absurd cc
other_place (x ∷ xs) zero (suc k) v h = refl
other_place (x ∷ xs) (suc i) zero v h = refl
other_place (x ∷ xs) (suc i) (suc k) v h = other_place xs i k v (grind (arith, nat_tests))

same_place : {A : Type 0} (xs : List A) (i : ℕ) (v : A) → i < length xs → slice_get (slice_set xs i v) i ≡ Some v
same_place [] i v h = absurd (omega (arith, h))
same_place (x ∷ xs) zero v h = refl
same_place (x ∷ xs) (suc i) v h = same_place xs i v (omega (arith, h))

-- the threads of a queue are kept beside their values
threads-with_values : {A : Type 0} (threads : ℕ) (values : List A) (queue : List ℕ) → IsQueue threads queue → length values ≡ threads + 1 → queued_threads (with_values values queue) ≡ queue
threads-with_values threads values [] q places = refl
threads-with_values threads values (t ∷ queue) q places =
    let v = found values t (omega (arith, q.0, places)) in
    rw v.1 (ap (λ l. t ∷ l) (threads-with_values threads values queue q.2 places))

length-with_values : {A : Type 0} (threads : ℕ) (values : List A) (queue : List ℕ) → IsQueue threads queue → length values ≡ threads + 1 → length (with_values values queue) ≡ length queue
length-with_values threads values queue q places =
    sym (length-map (with_values values queue) (λ w. w.thread)) ∙ ap length (threads-with_values threads values queue q places)

before-append : {A : Type 0} (t : ℕ) (v : Option A) (others more : List (Waiter A)) → before t v (others ++ more) ≡ before t v others ++ more
before-append t None others more = refl
before-append t (Some v) others more = refl

-- a thread goes to the end of the queue, in which it doesn't stand, with a value
with_values-push : {A : Type 0} (values : List A) (queue : List ℕ) (t : ℕ) (v : A) → t < length values → is_queued queue t ≡ false → with_values (slice_set values t v) (queue ++ t ∷ []) ≡ with_values values queue ++ (record { thread = t; value = v }) ∷ []
with_values-push values [] t v h new = rw (same_place values t v h) refl
with_values-push values (x ∷ queue) t v h new =
    rw (other_place values t x v (or_parts (eqb x t) (is_queued queue t) new).0, with_values-push values queue t v h (or_parts (eqb x t) (is_queued queue t) new).1)
    (before-append x (slice_get values x) (with_values values queue) ((record { thread = t; value = v }) ∷ []))

-- the first thread and its value
with_values-none : {A : Type 0} (values : List A) (queue : List ℕ) → slice_get queue 0 ≡ None → with_values values queue ≡ []
with_values-none values [] none = refl
with_values-none values (x ∷ queue) none = absurd cc

with_values-first : {A : Type 0} (values : List A) (queue : List ℕ) (t : ℕ) (v : A) → slice_get queue 0 ≡ Some t → slice_get values t ≡ Some v → slice_get (with_values values queue) 0 ≡ Some (record { thread = t; value = v })
with_values-first values [] t v first at = absurd cc
with_values-first values (x ∷ queue) t v first at =
    let same : x ≡ t = cc in
    rw (same, at) refl

first-known : (threads : ℕ) (queue : List ℕ) (t : ℕ) → IsQueue threads queue → slice_get queue 0 ≡ Some t → t ≤ threads
first-known threads [] t q first = absurd cc
first-known threads (x ∷ queue) t q first =
    let same : x ≡ t = cc in
    rw (← same) q.0

-- the queue that the fields stand for has the threads of the plain queue, and is as long
pub threads-view : {A : Type 0} (queue : QueueView) (values : List A) (now : ValuedView A) → KeepsValues queue values → valued_view queue values ≡ now → queued_threads now.queue ≡ queue.queue
threads-view queue values now keeps is = rw (← is) (threads-with_values queue.threads values queue.queue keeps.known keeps.places)

pub length-view : {A : Type 0} (queue : QueueView) (values : List A) (now : ValuedView A) → KeepsValues queue values → valued_view queue values ≡ now → length now.queue ≡ length queue.queue
length-view queue values now keeps is = rw (← is) (length-with_values queue.threads values queue.queue keeps.known keeps.places)

-- the fields after a thread went to the end
pub keeps-push : {A : Type 0} (queue : QueueView) (values : List A) (t : ℕ) (v : A) → KeepsValues queue values → t ≤ queue.threads → is_queued queue.queue t ≡ false → KeepsValues (pushed queue t) (slice_set values t v)
keeps-push queue values t v keeps known new = record {
  places = length-set values t v ∙ keeps.places;
  known = IsQueue-push queue.threads queue.queue t keeps.known known new;
}

pub view-push : {A : Type 0} (queue : QueueView) (values : List A) (t : ℕ) (v : A) → KeepsValues queue values → t ≤ queue.threads → is_queued queue.queue t ≡ false → valued_view (pushed queue t) (slice_set values t v) ≡ joined (valued_view queue values) t v
view-push queue values t v keeps known new =
    ap (λ l. record { threads = queue.threads; queue = l }) (with_values-push values queue.queue t v (omega (arith, keeps.places)) new)

-- the oldest thread has a place
pub place-first : {A : Type 0} (queue : QueueView) (values : List A) (t : ℕ) → KeepsValues queue values → slice_get queue.queue 0 ≡ Some t → t < length values
place-first queue values t keeps first = omega (arith, first-known queue.threads queue.queue t keeps.known first, keeps.places)

pub view-none : {A : Type 0} (queue : QueueView) (values : List A) (now : ValuedView A) → valued_view queue values ≡ now → slice_get queue.queue 0 ≡ None → now.queue ≡ []
view-none queue values now is none = rw (← is) (with_values-none values queue.queue none)

pub view-first : {A : Type 0} (queue : QueueView) (values : List A) (now : ValuedView A) (t : ℕ) (v : A) → KeepsValues queue values → valued_view queue values ≡ now → slice_get queue.queue 0 ≡ Some t → v ≡ get_or values t v → slice_get now.queue 0 ≡ Some (record { thread = t; value = v })
view-first queue values now t v keeps is first at =
    rw (← is) (with_values-first values queue.queue t v first (slice_get_read values (length values) t v refl (place-first queue values t keeps first) at))

-- who stands first, as `head` answers it
pub none-first : {A : Type 0} (queue : List (Waiter A)) → slice_get queue 0 ≡ None → queue ≡ []
none-first [] none = refl
none-first (w ∷ queue) none = absurd cc

pub some-first : {A : Type 0} (queue : List (Waiter A)) (w : Waiter A) → slice_get queue 0 ≡ Some w → queue ≡ w ∷ drop 1 queue
some-first [] w first = absurd cc
some-first (x ∷ queue) w first =
    let same : x ≡ w = cc in
    ap (λ y. y ∷ queue) same

-- the threads of two queues, one after the other
pub threads-append : {A : Type 0} (queue more : List (Waiter A)) → map (λ w. w.thread) (queue ++ more) ≡ map (λ w. w.thread) queue ++ map (λ w. w.thread) more
threads-append queue more = map-append (λ w. w.thread) queue more

pub is_queued-append : (queue more : List ℕ) (t : ℕ) → is_queued (queue ++ more) t ≡ (is_queued queue t || is_queued more t)
is_queued-append queue more t = list_any-append (λ x. x == t) queue more

-- what the users of a queue with values need
pub ruleset valued_steps = (none-first, some-first, threads-append, is_queued-append)
