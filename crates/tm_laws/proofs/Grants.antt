-- What one reply for each thread of a list leaves in the list of granted replies.
use Rattle.std.proofs.Common.{◌≡◌, ℕ, ◌+◌, ◌<◌, ◌≤◌, ◌==◌, ◌⊎◌, inl, inr, ⊎_elim, List, [], ◌∷◌, Option, Some, None, is_some, slice_index_or, slice_set, length, refl, sym, ◌∙◌, subst, arith, eq-eqb, ne_eqb, get_or-set_same, get_or-set_other, length-set}
use Rattle.std.proofs.lemmas.Bool.{cases_eq, cases_lt}
use Rattle.std.proofs.lemmas.List.{set_past}
use Rattle.tm_base.specs.declared.replies.Reply.{Reply}
use Rattle.tm_base.specs.States.{grant_all}
use Rattle.tm_laws.specs.Counts.{bit, count_in}
use Rattle.tm_laws.proofs.Counting.{bit-true}

-- the thread has a granted reply in the list
abbrev pub granted_at : List (Option Reply) → ℕ → ℕ
granted_at g x = bit (is_some (slice_index_or g x None))

pub length-grant_all : (ts : List ℕ) (r : Reply) (g : List (Option Reply)) → length (grant_all ts r g) ≡ length g
length-grant_all [] r g = refl
length-grant_all (t ∷ ts) r g = length-grant_all ts r (slice_set g t (Some r)) ∙ length-set g t (Some r)

-- one more grant counts for its thread alone
granted_at-set : (g : List (Option Reply)) (t : ℕ) (r : Reply) (x : ℕ) → t < length g → granted_at g t ≡ 0 → granted_at (slice_set g t (Some r)) x ≡ bit (t == x) + granted_at g x
granted_at-set g t r x inside free = ⊎_elim here there (cases_eq t x)
  where
    here : t ≡ x → granted_at (slice_set g t (Some r)) x ≡ bit (t == x) + granted_at g x
    here e = subst (λ (u : ℕ). granted_at (slice_set g t (Some r)) u ≡ bit (t == u) + granted_at g u) e (rw (get_or-set_same g t (Some r) None inside) (omega (arith, bit-true (t == t) (eq-eqb t t refl))))

    there : (t ≡ x → ⊥) → granted_at (slice_set g t (Some r)) x ≡ bit (t == x) + granted_at g x
    there ne = rw (get_or-set_other g t x (Some r) None (λ e. ne (sym e)), ne_eqb t x ne) (omega arith)

-- each thread of the list, of which none has a grant and none stands there twice, gets one
pub granted_at-grant_all : (ts : List ℕ) (r : Reply) (g : List (Option Reply)) → ((x : ℕ) → count_in ts x + granted_at g x ≤ 1) → ((x : ℕ) → 1 ≤ count_in ts x → x < length g) → (x : ℕ) → granted_at (grant_all ts r g) x ≡ count_in ts x + granted_at g x
granted_at-grant_all [] r g once inside x = omega arith
granted_at-grant_all (t ∷ ts) r g once inside x =
    let one : bit (t == t) ≡ 1 = bit-true (t == t) (eq-eqb t t refl) in
    let within : t < length g = inside t (omega arith) in
    let free : granted_at g t ≡ 0 = omega (arith, once t) in
    let more : (y : ℕ) → granted_at (slice_set g t (Some r)) y ≡ bit (t == y) + granted_at g y = λ y. granted_at-set g t r y within free in
    omega (arith, granted_at-grant_all ts r (slice_set g t (Some r)) (λ y. omega (arith, once y, more y)) (λ y h. subst (λ (n : ℕ). y < n) (sym (length-set g t (Some r))) (inside y (omega arith))) x, more x)

-- a reply in the list after one more grant is that one, or one from before
set-from : (g : List (Option Reply)) (t : ℕ) (r : Reply) (x : ℕ) (q : Reply) → slice_index_or (slice_set g t (Some r)) x None ≡ Some q → (q ≡ r) ⊎ (slice_index_or g x None ≡ Some q)
set-from g t r x q h = ⊎_elim here (λ (ne : t ≡ x → ⊥). inr (sym (get_or-set_other g t x (Some r) None (λ e. ne (sym e))) ∙ h)) (cases_eq t x)
  where
    here : t ≡ x → (q ≡ r) ⊎ (slice_index_or g x None ≡ Some q)
    here e =
        let same : slice_index_or (slice_set g t (Some r)) t None ≡ Some q = subst (λ (u : ℕ). slice_index_or (slice_set g t (Some r)) u None ≡ Some q) (sym e) h in
        ⊎_elim (λ (inside : t < length g). inl (cc (get_or-set_same g t (Some r) None inside, same))) (λ (past : length g ≤ t). inr (rw (set_past g t (Some r) past) at h)) (cases_lt t (length g))

-- a granted reply is the one that was given just now, or one from before
pub grant_all-from : (ts : List ℕ) (r : Reply) (g : List (Option Reply)) (x : ℕ) (q : Reply) → slice_index_or (grant_all ts r g) x None ≡ Some q → (q ≡ r) ⊎ (slice_index_or g x None ≡ Some q)
grant_all-from [] r g x q h = inr h
grant_all-from (t ∷ ts) r g x q h = ⊎_elim (λ (e : q ≡ r). inl e) (λ (e : slice_index_or (slice_set g t (Some r)) x None ≡ Some q). set-from g t r x q e) (grant_all-from ts r (slice_set g t (Some r)) x q h)
