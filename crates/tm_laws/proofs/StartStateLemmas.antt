-- An object is sound before its first event.
use Rattle.std.proofs.Common.{nat_lt, false, ◌∙◌, ◌≡◌, ℕ, ◌+◌, ◌<◌, ◌≤◌, ⊎_elim, [], replicate, Option, None, is_some, slice_index_or, refl, ap, arith, zero, suc}
use Rattle.std.proofs.lemmas.Bool.{cases_lt}
use Rattle.std.proofs.lemmas.List.{length-replicate, get_or-replicate, get_or_past}
use Rattle.tm_base.specs.declared.replies.Reply.{Reply}
use Rattle.tm_base.specs.declared.kinds.Kind.{Kind}
use Rattle.tm_base.specs.declared.kinds.Kind.TheVariants as kind
use Rattle.tm_base.specs.States.{queued, all_of, start_kind_state, start_state, is_pending}
use Rattle.tm_base.specs.Machines.{fresh}
use Rattle.tm_laws.specs.Counts.{bit, count_in, occurrences}
use Rattle.tm_laws.specs.Tidy.{IsTidy, IsStateOf, IsSound}
use Rattle.tm_laws.proofs.Tidiness.{is_pending-occurrences}

all_of-start : (n : ℕ) → all_of (replicate n []) ≡ []
all_of-start zero = refl
all_of-start (suc n) = all_of-start n

pub queued-start : (k : Kind) → queued (start_kind_state k) ≡ []
queued-start (kind.Hoare conditions) = all_of-start conditions
queued-start (kind.Mesa conditions) = all_of-start conditions
queued-start k = refl

pub start-own : (k : Kind) → IsStateOf k (start_kind_state k)
start-own (kind.Hoare conditions) = length-replicate conditions []
start-own (kind.Mesa conditions) = length-replicate conditions []
start-own kind.Mutex = tt
start-own k = tt

no_grants : (n x : ℕ) → slice_index_or {A = Option Reply} (replicate n None) x None ≡ None
no_grants n x = ⊎_elim (λ (inside : x < n). get_or-replicate n x None None inside) (λ (past : n ≤ x). get_or_past (replicate n None) x None (omega (arith, length-replicate {A = Option Reply} n None))) (cases_lt x n)

pub start-occurrences : (k : Kind) (threads x : ℕ) → occurrences (start_state k threads) x ≡ 0
start-occurrences k threads x = omega (arith, ap (λ q. count_in q x) (queued-start k), ap (λ o. bit (is_some o)) (no_grants (threads + 1) x))

pub start-tidy : (k : Kind) (threads : ℕ) → IsTidy threads (start_state k threads)
start-tidy k threads = record {
  long = length-replicate (threads + 1) None;
  known = λ x h. absurd (omega (arith, start-occurrences k threads x));
  once = λ x. omega (arith, start-occurrences k threads x);
  final = λ x q e. absurd (cc (no_grants (threads + 1) x, e));
  quiet = λ _. queued-start k;
}

pub start-sound : (k : Kind) (threads : ℕ) → IsSound (fresh k threads)
start-sound k threads = record { tidy = start-tidy k threads; kind_state = start-own k }

pub start-free : (k : Kind) (threads x : ℕ) → is_pending (start_state k threads) x ≡ false
start-free k threads x = is_pending-occurrences (start_state k threads) x ∙ ap (nat_lt 0) (start-occurrences k threads x)
