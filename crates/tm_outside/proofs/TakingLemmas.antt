-- What reads one after the other take.
use Rattle.std.proofs.Common.{◌≡◌, ℕ, ◌+◌, ◌≤◌, ◌⊎◌, List, [], ◌++◌, Option, None, Some, sym, ap, ◌∙◌, append_assoc, append-nil, length, take, drop, inl, inr, take-append-drop, drop_of_length-le, length-append, arith}
use Rattle.std.proofs.lemmas.List.{take_at, drop_at, take_all, drop-drop, length-take-le}
use Rattle.tm_outside.specs.Taking.{Takes, TakesAtMost, TakesFirst, IsAtEnd}

-- where nothing changed nothing was taken
pub Takes-none : (old new : Option (List ℕ)) → new ≡ old → Takes old new []
Takes-none None None same = tt
Takes-none None (Some new) same = cc
Takes-none (Some old) None same = cc
Takes-none (Some old) (Some new) same = cc

-- what is taken in two steps
pub Takes-trans : (first second third : Option (List ℕ)) (bytes more : List ℕ) → Takes first second bytes → Takes second third more → Takes first third (bytes ++ more)
Takes-trans None None None bytes more p q = tt
Takes-trans None None (Some z) bytes more p q = absurd q
Takes-trans None (Some y) third bytes more p q = absurd p
Takes-trans (Some x) None third bytes more p q = absurd p
Takes-trans (Some x) (Some y) None bytes more p q = absurd q
Takes-trans (Some x) (Some y) (Some z) bytes more p q =
    p ∙ ap (λ l. bytes ++ l) q ∙ sym (append_assoc bytes more z)

-- where nothing changed no byte was taken
pub TakesAtMost-none : (n : ℕ) (old new : Option (List ℕ)) → new ≡ old → TakesAtMost n old new
TakesAtMost-none n old new same = record { prefix = []; taken = Takes-none old new same; few = omega arith }

-- a prefix is taken in two steps
pub TakesAtMost-after : (n m : ℕ) (first second third : Option (List ℕ)) (bytes : List ℕ) → length bytes + m ≤ n → Takes first second bytes → TakesAtMost m second third → TakesAtMost n first third
TakesAtMost-after n m first second third bytes fits p q = record {
  prefix = bytes ++ q.prefix;
  taken = Takes-trans first second third bytes q.prefix p q.taken;
  few = rw length-append (omega (arith, q.few));
}

-- what was taken are the first n bytes, where it is n bytes, or fewer and none is left
pub TakesFirst-from_takes : (n : ℕ) (old new : Option (List ℕ)) (bytes : List ℕ) → Takes old new bytes → (length bytes ≡ n) ⊎ ((length bytes ≤ n) × IsAtEnd new) → TakesFirst n old new bytes
TakesFirst-from_takes n None None bytes p q = tt
TakesFirst-from_takes n None (Some y) bytes p q = absurd p
TakesFirst-from_takes n (Some x) None bytes p q = absurd p
TakesFirst-from_takes n (Some x) (Some y) bytes p (inl all) =
    (sym (ap (take n) p ∙ take_at bytes y n all), sym (ap (drop n) p ∙ drop_at bytes y n all))
TakesFirst-from_takes n (Some x) (Some y) bytes p (inr (short, none)) =
    let e : x ≡ bytes = p ∙ ap (λ l. bytes ++ l) none ∙ append-nil bytes in
    (sym (ap (take n) e ∙ take_all n bytes short), none ∙ sym (ap (drop n) e ∙ drop_of_length-le bytes short))

-- the first n bytes stand in front of a buffer
pub taken_front : (bytes buf new : List ℕ) (at n : ℕ) → n ≤ length (drop at bytes) → new ≡ take n (drop at bytes) ++ drop n buf → drop at bytes ≡ take n new ++ drop (at + n) bytes
taken_front bytes buf new at n fits copied =
    let prefix : take n new ≡ take n (drop at bytes) = ap (take n) copied ∙ take_at _ _ n (length-take-le n (drop at bytes) fits) in
    sym (take-append-drop n (drop at bytes)) ∙ ap (λ l. l ++ drop n (drop at bytes)) (sym prefix) ∙ ap (λ l. take n new ++ l) (drop-drop n at bytes)
