-- What a resume leaves: the thread's call is pending no more, and all else is as it was.
use Rattle.std.proofs.Common.{◌≡◌, ℕ, ◌+◌, ◌<◌, ◌≤◌, false, ◌==◌, nat_lt, if◌then◌else◌, ⊎_elim, Some, None, length, refl, ap, sym, ◌∙◌, subst, arith, eq-eqb, ne_eqb, get_or-set_same, get_or-set_other, length-set}
use Rattle.std.proofs.lemmas.Bool.{cases_eq, cases_lt}
use Rattle.std.proofs.lemmas.List.{set_past, get_or_past}
use Rattle.tm_base.specs.declared.replies.Reply.{Reply}
use Rattle.tm_base.specs.States.{State, grant_of, is_pending, resumed}
use Rattle.tm_laws.specs.Counts.{bit, occurrences}
use Rattle.tm_laws.specs.Tidy.{IsTidy}
use Rattle.tm_laws.proofs.Counting.{bit-true}
use Rattle.tm_laws.proofs.Tidiness.{is_pending-occurrences}

-- after it the thread has no grant, and each other what it had
pub grant_of-resumed_self : (s : State) (t : ℕ) → grant_of (resumed s t) t ≡ None
grant_of-resumed_self s t = ⊎_elim
    (λ (inside : t < length s.granted). get_or-set_same s.granted t None None inside)
    (λ (past : length s.granted ≤ t). rw (set_past s.granted t None past) (get_or_past s.granted t None past)) (cases_lt t (length s.granted))

pub grant_of-resumed_other : (s : State) (t x : ℕ) → (t ≡ x → ⊥) → grant_of (resumed s t) x ≡ grant_of s x
grant_of-resumed_other s t x ne = get_or-set_other s.granted t x None None (λ e. ne (sym e))

module _ (s : State) (t : ℕ) (r : Reply) (had : grant_of s t ≡ Some r) where
  pub resumed-occurrences : (x : ℕ) → occurrences (resumed s t) x + bit (t == x) ≡ occurrences s x
  resumed-occurrences x = ⊎_elim here there (cases_eq t x)
    where
      here : t ≡ x → occurrences (resumed s t) x + bit (t == x) ≡ occurrences s x
      here e = subst (λ (u : ℕ). occurrences (resumed s t) u + bit (t == u) ≡ occurrences s u) e
          (rw (grant_of-resumed_self s t, had) (omega (arith, bit-true (t == t) (eq-eqb t t refl))))

      there : (t ≡ x → ⊥) → occurrences (resumed s t) x + bit (t == x) ≡ occurrences s x
      there ne = rw (grant_of-resumed_other s t x ne, ne_eqb t x ne) (omega arith)

  pub resumed-tidy : (threads : ℕ) → IsTidy threads s → IsTidy threads (resumed s t)
  resumed-tidy threads tidy = record {
    long = length-set s.granted t None ∙ tidy.long;
    known = λ x h. tidy.known x (omega (arith, resumed-occurrences x));
    once = λ x. omega (arith, resumed-occurrences x, tidy.once x);
    final = λ x q e. ⊎_elim
        (λ (same : t ≡ x). absurd (cc (grant_of-resumed_self s t, subst (λ (u : ℕ). grant_of (resumed s t) u ≡ Some q) (sym same) e)))
        (λ (ne : t ≡ x → ⊥). tidy.final x q (sym (grant_of-resumed_other s t x ne) ∙ e)) (cases_eq t x);
    quiet = tidy.quiet;
  }

  pub resumed-pending : (threads : ℕ) → IsTidy threads s → (x : ℕ) → is_pending (resumed s t) x ≡ (if x == t then false else is_pending s x)
  resumed-pending threads tidy x = is_pending-occurrences (resumed s t) x ∙ ⊎_elim here there (cases_eq t x)
    where
      here : t ≡ x → nat_lt 0 (occurrences (resumed s t) x) ≡ (if x == t then false else is_pending s x)
      here e =
          let none : occurrences (resumed s t) x ≡ 0 = omega (arith, resumed-occurrences x, bit-true (t == x) (eq-eqb t x e), tidy.once x) in
          rw (eq-eqb x t (sym e)) (ap (nat_lt 0) none)

      there : (t ≡ x → ⊥) → nat_lt 0 (occurrences (resumed s t) x) ≡ (if x == t then false else is_pending s x)
      there ne =
          let same : occurrences (resumed s t) x ≡ occurrences s x = omega (arith, resumed-occurrences x, ap bit (ne_eqb t x ne)) in
          rw (ne_eqb x t (λ e. ne (sym e))) (ap (nat_lt 0) same ∙ sym (is_pending-occurrences s x))
