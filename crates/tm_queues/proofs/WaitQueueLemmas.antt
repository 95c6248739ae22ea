-- Queues in which no thread stands twice.
use Rattle.std.proofs.Common.{◌≡◌, ◌≢◌, ◌==◌, ℕ, ◌+◌, ◌<◌, ◌≤◌, Bool, true, false, refl, get_or, slice_set, List, [], ◌∷◌, ◌++◌, length, length-append, eqb, arith, ⊎_elim, subst, Option, Some, None, option_to_list}
use Rattle.std.proofs.lemmas.Bool.{or_parts, or_from, or_cases, eqb-true}
use Rattle.std.proofs.lemmas.Bool.Decides.{nat_tests}
use Rattle.std.proofs.lemmas.List.Folds.{list_any-append}
use Rattle.std.proofs.lemmas.List.{get_or-set_same, get_or-set_other}
use Rattle.std.specs.List.{list_any, IsDistinct, AllByRecursion}
use Rattle.std.proofs.lemmas.Map.Steps.{length-le_from_distinct_below}
use Rattle.tm_base.specs.States.{is_queued}
use Rattle.tm_queues.specs.WaitQueues.{IsQueue}
use Rattle.tm_queues.specs.StoredWaitQueues.{MarksQueue}

-- two numbers are told apart either way round
apart : (x y : ℕ) → eqb x y ≡ false → eqb y x ≡ false
apart x y h = grind (arith, nat_tests)

-- a thread that isn't in a queue isn't in it after another went to its end
is_queued-push : (queue : List ℕ) (x t : ℕ) → is_queued queue x ≡ false → eqb t x ≡ false → is_queued (queue ++ t ∷ []) x ≡ false
is_queued-push [] x t h e = or_from _ _ e h
is_queued-push (y ∷ queue) x t h e = or_from _ _ (or_parts _ _ h).0 (is_queued-push queue x t (or_parts _ _ h).1 e)

-- a new thread goes to the end of the queue
pub IsQueue-push : (threads : ℕ) (queue : List ℕ) (t : ℕ) → IsQueue threads queue → t ≤ threads → is_queued queue t ≡ false → IsQueue threads (queue ++ t ∷ [])
IsQueue-push threads [] t q known new = (known, new, tt)
IsQueue-push threads (x ∷ queue) t q known new =
    (q.0, is_queued-push queue x t q.1 (apart x t (or_parts _ _ new).0), IsQueue-push threads queue t q.2 known (or_parts _ _ new).1)

-- a thread that isn't in the queue is none of its threads
others : (queue : List ℕ) (t : ℕ) → is_queued queue t ≡ false → AllByRecursion (λ y. eqb t y ≡ false) queue
others [] t h = tt
others (x ∷ queue) t h = (apart x t (or_parts _ _ h).0, others queue t (or_parts _ _ h).1)

distinct : (threads : ℕ) (queue : List ℕ) → IsQueue threads queue → IsDistinct eqb queue
unfolding IsDistinct
distinct threads [] q = tt
distinct threads (x ∷ queue) q = (others queue x q.1, distinct threads queue q.2)

below : (threads : ℕ) (queue : List ℕ) → IsQueue threads queue → (t : ℕ) → list_any (eqb t) queue ≡ true → t < threads + 1
below threads [] q t h = cc
below threads (x ∷ queue) q t h =
    ⊎_elim (λ (e : eqb t x ≡ true). let same : t ≡ x = eqb-true t x e in omega (arith, q.0)) (λ (r : list_any (eqb t) queue ≡ true). below threads queue q.2 t r) (or_cases _ _ h)

-- a queue has at most one thread more than the greatest number
pub length-IsQueue : (threads : ℕ) (queue : List ℕ) → IsQueue threads queue → length queue ≤ threads + 1
length-IsQueue threads queue q = length-le_from_distinct_below queue (threads + 1) (distinct threads queue q) (below threads queue q)

-- while a thread isn't in the queue there is room for it
pub room : (threads : ℕ) (queue : List ℕ) (t : ℕ) → IsQueue threads queue → t ≤ threads → is_queued queue t ≡ false → length queue ≤ threads
room threads queue t q known new = omega (arith, length-IsQueue threads (queue ++ t ∷ []) (IsQueue-push threads queue t q known new), length-append queue (t ∷ []))

-- the queue after its head left
pub IsQueue-tail : (threads : ℕ) (queue rest : List ℕ) (head : Option ℕ) → queue ≡ option_to_list head ++ rest → IsQueue threads queue → IsQueue threads rest
IsQueue-tail threads queue rest None e q = subst (IsQueue threads) e q
IsQueue-tail threads queue rest (Some h) e q = (subst (IsQueue threads) e q).2

-- the marks after a thread went to the end
mark-push : (marks : List Bool) (queue : List ℕ) (t x : ℕ) (same : Bool) → eqb t x ≡ same → t < length marks → get_or marks x false ≡ is_queued queue x → get_or (slice_set marks t true) x false ≡ is_queued (queue ++ t ∷ []) x
mark-push marks queue t x true same h m =
    let e : t ≡ x = eqb-true t x same in
    rw (list_any-append (λ y. y == x) queue (t ∷ []), ← e, get_or-set_same marks t true false h) (grind (arith, nat_tests))
mark-push marks queue t x false apart h m =
    let other : x ≢ t = λ e. grind (arith, nat_tests) in
    rw (list_any-append (λ y. y == x) queue (t ∷ []), get_or-set_other marks t x true false other, m, apart) (grind (arith, nat_tests))

pub marks-push : (marks : List Bool) (queue later : List ℕ) (t : ℕ) → MarksQueue marks queue → t < length marks → later ≡ queue ++ t ∷ [] → MarksQueue (slice_set marks t true) later
marks-push marks queue later t m h is = rw is (record { each = λ x. mark-push marks queue t x (eqb t x) refl h (m.each x) })

-- what the methods of a queue need
pub ruleset queue_steps = (IsQueue-push, IsQueue-tail, length-IsQueue, room)
