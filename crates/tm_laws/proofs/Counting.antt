-- How often a thread stands in a queue.
use Rattle.std.proofs.Common.{◌≡◌, ℕ, ◌+◌, ◌≤◌, Bool, true, false, ◌||◌, ◌==◌, nat_lt, List, [], ◌∷◌, ◌++◌, refl, arith, eq-eqb}
use Rattle.std.proofs.lemmas.Bool.Decides.{nat_tests}
use Rattle.tm_base.specs.States.{is_queued}
use Rattle.tm_base.specs.declared.replies.Reply.{Reply}
use Rattle.tm_base.specs.declared.replies.Reply.TheVariants as reply
use Rattle.tm_laws.specs.Counts.{bit, count_in, is_wait, is_grant}

pub count_in-append : (xs ys : List ℕ) (x : ℕ) → count_in (xs ++ ys) x ≡ count_in xs x + count_in ys x
count_in-append [] ys x = omega arith
count_in-append (y ∷ xs) ys x = omega (arith, count_in-append xs ys x)

pub bit_small : (b : Bool) → bit b ≤ 1
bit_small true = omega arith
bit_small false = omega arith

pub bit-true : (b : Bool) → b ≡ true → bit b ≡ 1
bit-true true e = refl
bit-true false e = absurd cc

-- a thread stands in the queue exactly if it does so at least once
pub is_queued-count : (queue : List ℕ) (x : ℕ) → is_queued queue x ≡ nat_lt 0 (count_in queue x)
is_queued-count [] x = refl
is_queued-count (y ∷ queue) x = go (y == x) (is_queued-count queue x)
  where
    go : (b : Bool) → is_queued queue x ≡ nat_lt 0 (count_in queue x) → (b || is_queued queue x) ≡ nat_lt 0 (bit b + count_in queue x)
    go true ih = grind (arith, nat_tests)
    go false ih = grind (arith, nat_tests)

-- the same where it may hold a granted reply instead
pub pending-occurrences : (queue : List ℕ) (b : Bool) (x : ℕ) → (is_queued queue x || b) ≡ nat_lt 0 (count_in queue x + bit b)
pending-occurrences queue b x = go (is_queued queue x) b (is_queued-count queue x)
  where
    go : (a b : Bool) → a ≡ nat_lt 0 (count_in queue x) → (a || b) ≡ nat_lt 0 (count_in queue x + bit b)
    go true true e = grind (arith, nat_tests)
    go true false e = grind (arith, nat_tests)
    go false true e = grind (arith, nat_tests)
    go false false e = grind (arith, nat_tests)

-- where nobody stands in it at all, the queue is empty
pub empty_from_counts : (queue : List ℕ) → ((x : ℕ) → count_in queue x ≡ 0) → queue ≡ []
empty_from_counts [] none = refl
empty_from_counts (y ∷ queue) none = absurd (omega (arith, none y, bit-true (y == y) (eq-eqb y y refl)))

-- a reply that can be granted doesn't say that the call waits
pub grant-plain : (r : Reply) → is_grant r ≡ true → is_wait r ≡ false
grant-plain reply.Wait e = absurd cc
grant-plain r e = refl
