-- The queues of a monitor's conditions, of which one changes.
use Rattle.std.proofs.Common.{◌≡◌, ℕ, zero, suc, ◌+◌, ◌<◌, true, nat_lt, List, [], ◌∷◌, length, Some, slice_get, slice_set, refl, ap, arith, ltb-true}
use Rattle.tm_base.specs.States.{all_of}
use Rattle.tm_laws.specs.Counts.{count_in}
use Rattle.tm_laws.proofs.Counting.{count_in-append}

-- a condition has its queue
at_condition : (queues : List (List ℕ)) (c : ℕ) → c < length queues → (waiting : List ℕ) × (slice_get queues c ≡ Some waiting)
at_condition [] c h = absurd (omega arith)
at_condition (q ∷ queues) zero h = (q, refl)
at_condition (q ∷ queues) (suc c) h = at_condition queues c (omega arith)

pub condition_queue : (queues : List (List ℕ)) (count c : ℕ) → length queues ≡ count → nat_lt c count ≡ true → (waiting : List ℕ) × (slice_get queues c ≡ Some waiting)
condition_queue queues count c shape fit = at_condition queues c (omega (arith, shape, ltb-true c count fit))

-- one queue is replaced by another
pub count_all-set : (queues : List (List ℕ)) (c : ℕ) (old new : List ℕ) (x : ℕ) → slice_get queues c ≡ Some old
    → count_in (all_of (slice_set queues c new)) x + count_in old x ≡ count_in (all_of queues) x + count_in new x
count_all-set [] c old new x e = absurd cc
count_all-set (q ∷ queues) zero old new x e =
    let same : count_in q x ≡ count_in old x = ap (λ l. count_in l x) (cc (e)) in
    omega (arith, same, count_in-append)
count_all-set (q ∷ queues) (suc c) old new x e = omega (arith, count_all-set queues c old new x e, count_in-append)
