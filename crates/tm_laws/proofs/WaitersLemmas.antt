-- Who waits in a tidy state: how many threads wait, and that none of them was granted.
use Rattle.std.proofs.Common.{◌≡◌, ℕ, zero, suc, ◌+◌, ◌<◌, ◌≤◌, Bool, true, false, ◌||◌, ◌==◌, ◌⊎◌, ⊎_elim, nat_lt, List, [], ◌∷◌, length, Option, Some, None, is_some, refl, ap, sym, ◌∙◌, arith, eq-eqb, ne_eqb, ltb-true}
use Rattle.std.proofs.lemmas.Bool.{cases_eq, false_from_ne_true}
use Rattle.tm_base.specs.declared.replies.Reply.{Reply}
use Rattle.tm_base.specs.States.{State, queued, grant_of, is_waiting, is_pending}
use Rattle.tm_laws.specs.Counts.{bit, count_in, occurrences}
use Rattle.tm_laws.specs.Tidy.{IsTidy}
use Rattle.tm_laws.specs.Waiters.{waiting_to}
use Rattle.tm_laws.proofs.Counting.{is_queued-count}
use Rattle.tm_laws.proofs.Tidiness.{is_pending-occurrences}

-- how often the threads from 1 to n stand in the queue
abbrev total_to : List ℕ → ℕ → ℕ
total_to queue zero = 0
total_to queue (suc n) = total_to queue n + count_in queue (suc n)

abbrev single_to : ℕ → ℕ → ℕ
single_to x zero = 0
single_to x (suc n) = single_to x n + bit (x == suc n)

single_to-below : (x n : ℕ) → n < x → single_to x n ≡ 0
single_to-below x zero h = refl
single_to-below x (suc n) h = omega (arith, single_to-below x n (omega arith), ap bit (ne_eqb x (suc n) (λ e. omega arith)))

single_to-at : (x n : ℕ) → 1 ≤ x → x ≤ n → single_to x n ≡ 1
single_to-at x zero low high = absurd (omega arith)
single_to-at x (suc n) low high = go (cases_eq x (suc n)) (λ le. single_to-at x n low le)
  where
    go : ((x ≡ suc n) ⊎ (x ≡ suc n → ⊥)) → (x ≤ n → single_to x n ≡ 1) → single_to x (suc n) ≡ 1
    go c ih = ⊎_elim
        (λ (e : x ≡ suc n). omega (arith, single_to-below x n (omega arith), ap bit (eq-eqb x (suc n) e)))
        (λ (ne : x ≡ suc n → ⊥). omega (arith, ih (omega arith), ap bit (ne_eqb x (suc n) ne))) c

total_to-none : (n : ℕ) → total_to [] n ≡ 0
total_to-none zero = refl
total_to-none (suc n) = omega (arith, total_to-none n)

total_to-cons : (x : ℕ) (queue : List ℕ) (n : ℕ) → total_to (x ∷ queue) n ≡ single_to x n + total_to queue n
total_to-cons x queue zero = refl
total_to-cons x queue (suc n) = omega (arith, total_to-cons x queue n)

total_to-length : (queue : List ℕ) (n : ℕ) → ((x : ℕ) → 1 ≤ count_in queue x → (1 ≤ x) × (x ≤ n)) → total_to queue n ≡ length queue
total_to-length [] n known = total_to-none n
total_to-length (x ∷ queue) n known =
    let here : (1 ≤ x) × (x ≤ n) = known x (omega (arith, ap bit (eq-eqb x x refl))) in
    omega (arith, total_to-cons x queue n, single_to-at x n here.0 here.1, total_to-length queue n (λ y h. known y (omega arith)))

bit-some : (n : ℕ) → n ≤ 1 → bit (nat_lt 0 n) ≡ n
bit-some zero h = refl
bit-some (suc zero) h = refl
bit-some (suc (suc n)) h = absurd (omega arith)

module _ (threads : ℕ) (s : State) (tidy : IsTidy threads s) where
  waiting_to-total : (n : ℕ) → waiting_to s n ≡ total_to (queued s.kind_state) n
  waiting_to-total zero = refl
  waiting_to-total (suc n) =
      omega (arith, waiting_to-total n, ap bit (is_queued-count (queued s.kind_state) (suc n)), bit-some (count_in (queued s.kind_state) (suc n)) (omega (arith, tidy.once (suc n))))

  -- the length of the queues is how many threads wait
  pub length-queued : length (queued s.kind_state) ≡ waiting_to s threads
  length-queued = sym (waiting_to-total threads ∙ total_to-length (queued s.kind_state) threads (λ x h. tidy.known x (omega arith)))

  -- only program threads wait and are granted
  pub waiting-known : (x : ℕ) → is_waiting s x ≡ true → (1 ≤ x) × (x ≤ threads)
  waiting-known x h = tidy.known x (omega (arith, ltb-true 0 (count_in (queued s.kind_state) x) (sym (is_queued-count (queued s.kind_state) x) ∙ h)))

  pub pending-known : (x : ℕ) → is_pending s x ≡ true → (1 ≤ x) × (x ≤ threads)
  pending-known x h = tidy.known x (omega (arith, ltb-true 0 (occurrences s x) (sym (is_pending-occurrences s x) ∙ h)))

  pub granted-known : (x : ℕ) (r : Reply) → grant_of s x ≡ Some r → (1 ≤ x) × (x ≤ threads)
  granted-known x r h = tidy.known x (omega (arith, ap (λ g. bit (is_some g)) h))

  pub main-free : is_pending s 0 ≡ false
  main-free = false_from_ne_true (is_pending s 0) (λ h. omega (arith, (pending-known 0 h).0))

  -- who waits wasn't granted
  pub waiting-ungranted : (x : ℕ) → is_waiting s x ≡ true → grant_of s x ≡ None
  waiting-ungranted x h = go (grant_of s x) refl
    where
      go : (g : Option Reply) → grant_of s x ≡ g → grant_of s x ≡ None
      go None e = e
      go (Some r) e = absurd (omega (arith, tidy.once x, ap (λ g. bit (is_some g)) e, ltb-true 0 (count_in (queued s.kind_state) x) (sym (is_queued-count (queued s.kind_state) x) ∙ h)))

-- a pending call that wasn't granted waits
pub pending-waits : (s : State) (x : ℕ) → is_pending s x ≡ true → grant_of s x ≡ None → is_waiting s x ≡ true
pending-waits s x h e = go (is_waiting s x) (sym (ap (λ g. is_waiting s x || is_some g) e) ∙ h)
  where
    go : (b : Bool) → (b || false) ≡ true → b ≡ true
    go true k = refl
    go false k = k
