-- Threads that wait to send, as a queue of threads.
use Rattle.std.proofs.Common.{◌≡◌, ℕ, ◌+◌, ◌==◌, ℤ, List, [], ◌∷◌, ◌++◌, map, arith}
use Rattle.tm_base.specs.States.{Waiter}
use Rattle.tm_laws.specs.Counts.{bit, count_in}

pub count_of-push : (senders : List (Waiter ℤ)) (t : ℕ) (k : ℤ) (x : ℕ) → count_in (map (λ s. s.thread) (senders ++ record { thread = t; value = k } ∷ [])) x ≡ count_in (map (λ s. s.thread) senders) x + bit (t == x)
count_of-push [] t k x = omega arith
count_of-push (s ∷ senders) t k x = omega (arith, count_of-push senders t k x)
