-- One element of a list is set, or stands at the end; and where an element stands.
use Rattle.std.proofs.Common.{◌≡◌, ◌≢◌, ℕ, zero, suc, ◌<◌, Bool, true, false, cond, ◌⊎◌, inl, inr, ⊎_elim, List, [], ◌∷◌, ◌++◌, filter, Some, slice_get, slice_set, length, Contains, refl, sym, ap, ◌∙◌, arith}
use Rattle.std.proofs.lemmas.List.{append-nil}
use Rattle.std.proofs.lemmas.List.Elements.{filter-append}

-- what stands at a place of the list: the value, at the place that was set, or what stood there
pub slice_get-set_cases : {A : Type 0} (xs : List A) (i k : ℕ) (v y : A) → slice_get (slice_set xs i v) k ≡ Some y → ((k ≡ i) × (y ≡ v)) ⊎ ((k ≢ i) × (slice_get xs k ≡ Some y))
slice_get-set_cases [] i k v y h = inr ((λ _. cc), h)
slice_get-set_cases (x ∷ xs) zero zero v y h = inl (refl, cc)
slice_get-set_cases (x ∷ xs) zero (suc k) v y h = inr ((λ e. omega (arith, e)), h)
slice_get-set_cases (x ∷ xs) (suc i) zero v y h = inr ((λ e. omega (arith, e)), h)
slice_get-set_cases (x ∷ xs) (suc i) (suc k) v y h =
    ⊎_elim (λ same. inl (ap suc same.0, same.1)) (λ other. inr ((λ e. other.0 (omega (arith, e))), other.1)) (slice_get-set_cases xs i k v y h)

pub slice_get-set_same : {A : Type 0} (xs : List A) (i : ℕ) (v : A) → i < length xs → slice_get (slice_set xs i v) i ≡ Some v
slice_get-set_same [] i v h = absurd (omega (arith, h))
slice_get-set_same (x ∷ xs) zero v h = refl
slice_get-set_same (x ∷ xs) (suc i) v h = slice_get-set_same xs i v (omega (arith, h))

pub slice_get-set_other : {A : Type 0} (xs : List A) (i k : ℕ) (v : A) → k ≢ i → slice_get (slice_set xs i v) k ≡ slice_get xs k
slice_get-set_other [] i k v h = refl
slice_get-set_other (x ∷ xs) zero zero v h = absurd (h refl)
slice_get-set_other (x ∷ xs) zero (suc k) v h = refl
slice_get-set_other (x ∷ xs) (suc i) zero v h = refl
slice_get-set_other (x ∷ xs) (suc i) (suc k) v h = slice_get-set_other xs i k v (λ e. h (ap suc e))

-- what stands at a place of a list with one more at its end
pub slice_get-snoc_cases : {A : Type 0} (xs : List A) (v : A) (k : ℕ) (y : A) → slice_get (xs ++ v ∷ []) k ≡ Some y → ((k ≡ length xs) × (y ≡ v)) ⊎ (slice_get xs k ≡ Some y)
slice_get-snoc_cases [] v zero y h = inl (refl, cc)
slice_get-snoc_cases [] v (suc k) y h = absurd cc
slice_get-snoc_cases (x ∷ xs) v zero y h = inr h
slice_get-snoc_cases (x ∷ xs) v (suc k) y h = ⊎_elim (λ last. inl (ap suc last.0, last.1)) (λ before. inr before) (slice_get-snoc_cases xs v k y h)

pub slice_get-snoc_kept : {A : Type 0} (xs : List A) (v : A) (k : ℕ) (y : A) → slice_get xs k ≡ Some y → slice_get (xs ++ v ∷ []) k ≡ Some y
slice_get-snoc_kept [] v k y h = absurd cc
slice_get-snoc_kept (x ∷ xs) v zero y h = h
slice_get-snoc_kept (x ∷ xs) v (suc k) y h = slice_get-snoc_kept xs v k y h

pub slice_get-snoc_last : {A : Type 0} (xs : List A) (v : A) → slice_get (xs ++ v ∷ []) (length xs) ≡ Some v
slice_get-snoc_last [] v = refl
slice_get-snoc_last (x ∷ xs) v = slice_get-snoc_last xs v

-- within a list there is an element
pub element_at : {A : Type 0} (xs : List A) (i : ℕ) → i < length xs → (x : A) × (slice_get xs i ≡ Some x)
element_at [] i h = absurd (omega (arith, h))
element_at (x ∷ xs) zero h = (x, refl)
element_at (x ∷ xs) (suc i) h = element_at xs i (omega (arith, h))

-- one more at the end, which passes the test or doesn't
pub filter-snoc_in : {A : Type 0} (p : A → Bool) (xs : List A) (x : A) → p x ≡ true → filter p (xs ++ x ∷ []) ≡ filter p xs ++ x ∷ []
filter-snoc_in p xs x h = filter-append p xs (x ∷ []) ∙ ap (λ b. filter p xs ++ cond b (x ∷ []) []) h

pub filter-snoc_out : {A : Type 0} (p : A → Bool) (xs : List A) (x : A) → p x ≡ false → filter p (xs ++ x ∷ []) ≡ filter p xs
filter-snoc_out p xs x h = filter-append p xs (x ∷ []) ∙ ap (λ b. filter p xs ++ cond b (x ∷ []) []) h ∙ append-nil (filter p xs)

-- an element is the first one, or one of the others
pub Contains-first : {A : Type 0} (y : A) (xs : List A) (x : A) → Contains (y ∷ xs) x → (x ≡ y) ⊎ Contains xs x
Contains-first y xs x (zero, h, is) = inl (sym is)
Contains-first y xs x (suc k, h, is) = inr (k, omega (arith, h), is)

pub Contains-rest : {A : Type 0} (y : A) (xs : List A) (x : A) → Contains xs x → Contains (y ∷ xs) x
Contains-rest y xs x h = (suc h.0, omega (arith, h.1), h.2)

-- what stands at a place is an element
pub Contains-at : {A : Type 0} (xs : List A) (i : ℕ) (x : A) → slice_get xs i ≡ Some x → Contains xs x
Contains-at [] i x h = absurd cc
Contains-at (y ∷ xs) zero x h = (zero, omega arith, cc)
Contains-at (y ∷ xs) (suc i) x h = let there = Contains-at xs i x h in (suc there.0, omega (arith, there.1), there.2)

-- an element takes the list apart into what stands before it and what stands behind it
pub Contains-parts : {A : Type 0} (xs : List A) (x : A) → Contains xs x → (prefix : List A) × (back : List A) × (xs ≡ prefix ++ x ∷ back)
Contains-parts [] x h = absurd (omega (arith, h.1))
Contains-parts (y ∷ xs) x h = ⊎_elim
    (λ (same : x ≡ y). ([], xs, ap (λ z. z ∷ xs) (sym same)))
    (λ (after : Contains xs x). let parts = Contains-parts xs x after in (y ∷ parts.0, parts.1, ap (λ l. y ∷ l) parts.2))
    (Contains-first y xs x h)
