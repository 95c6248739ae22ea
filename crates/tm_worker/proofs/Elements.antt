-- One element of a list is set, or stands at the end; and where an element stands.
use Rattle.std.proofs.Common.{◌≡◌, ◌≢◌, ℕ, zero, suc, ◌<◌, Bool, true, false, cond, ◌⊎◌, inl, inr, ⊎_elim, List, [], ◌∷◌, ◌++◌, filter, map, Some, slice_get, slice_set, length, refl, ap, ◌∙◌, arith}
use Rattle.std.proofs.lemmas.List.{append-nil}
use Rattle.std.proofs.lemmas.List.Elements.{filter-append}

-- what stands at a place of the list: the value, at the place that was set, or what stood there
pub slice_get-set_cases : {A : Type 0} (xs : List A) (i k : ℕ) (v y : A) → slice_get (slice_set xs i v) k ≡ Some y → ((k ≡ i) × (y ≡ v)) ⊎ ((k ≢ i) × (slice_get xs k ≡ Some y))
slice_get-set_cases [] i k v y h = inr ((λ _. cc), h)
slice_get-set_cases (x ∷ xs) zero zero v y h = inl (refl, cc)
slice_get-set_cases (x ∷ xs) zero (suc k) v y h = inr ((λ e. omega (arith, e)), h)
slice_get-set_cases (x ∷ xs) (suc i) zero v y h = inr ((λ e. omega (arith, e)), h)
slice_get-set_cases (x ∷ xs) (suc i) (suc k) v y h =
    ⊎_elim (λ same. inl (ap suc same.0, same.1)) (λ other. inr ((λ e. other.0 (omega (arith, e))), other.1)) (slice_get-set_cases xs i k v y h)

pub slice_get-set_same : {A : Type 0} (xs : List A) (i : ℕ) (v : A) → i < length xs → slice_get (slice_set xs i v) i ≡ Some v
slice_get-set_same [] i v h = absurd (omega (arith, h))
slice_get-set_same (x ∷ xs) zero v h = refl
slice_get-set_same (x ∷ xs) (suc i) v h = slice_get-set_same xs i v (omega (arith, h))

pub length-slice_set : {A : Type 0} (xs : List A) (i : ℕ) (v : A) → length (slice_set xs i v) ≡ length xs
length-slice_set [] i v = refl
length-slice_set (x ∷ xs) zero v = refl
length-slice_set (x ∷ xs) (suc i) v = ap suc (length-slice_set xs i v)

-- within a list there is an element
pub found_at : {A : Type 0} (xs : List A) (i : ℕ) → i < length xs → (x : A) × (slice_get xs i ≡ Some x)
found_at [] i h = absurd (omega (arith, h))
found_at (x ∷ xs) zero h = (x, refl)
found_at (x ∷ xs) (suc i) h = found_at xs i (omega (arith, h))

-- one more at the end, which passes the test or doesn't
pub filter-snoc_in : {A : Type 0} (p : A → Bool) (xs : List A) (x : A) → p x ≡ true → filter p (xs ++ x ∷ []) ≡ filter p xs ++ x ∷ []
filter-snoc_in p xs x h = filter-append p xs (x ∷ []) ∙ ap (λ b. filter p xs ++ cond b (x ∷ []) []) h

pub filter-snoc_out : {A : Type 0} (p : A → Bool) (xs : List A) (x : A) → p x ≡ false → filter p (xs ++ x ∷ []) ≡ filter p xs
filter-snoc_out p xs x h = filter-append p xs (x ∷ []) ∙ ap (λ b. filter p xs ++ cond b (x ∷ []) []) h ∙ append-nil (filter p xs)

pub same_some : {A : Type 0} (a b : A) → Some a ≡ Some b → a ≡ b
same_some a b h = cc

-- two lists that look alike at each place
pub maps_alike : {A B C : Type 0} (f : A → C) (g : B → C) (xs : List A) (ys : List B) → length xs ≡ length ys
    → ((k : ℕ) (x : A) (y : B) → slice_get xs k ≡ Some x → slice_get ys k ≡ Some y → f x ≡ g y) → map f xs ≡ map g ys
maps_alike f g [] [] long alike = refl
maps_alike f g [] (y ∷ ys) long alike = absurd (omega (arith, long))
maps_alike f g (x ∷ xs) [] long alike = absurd (omega (arith, long))
maps_alike f g (x ∷ xs) (y ∷ ys) long alike =
    ap (λ c. c ∷ map f xs) (alike 0 x y refl refl) ∙ ap (λ cs. g y ∷ cs) (maps_alike f g xs ys (omega (arith, long)) (λ k u v p q. alike (suc k) u v p q))

-- what stands in a mapped list
pub mapped_at : {A B : Type 0} (f : A → B) (xs : List A) (i : ℕ) (y : B) → slice_get (map f xs) i ≡ Some y → (x : A) × (slice_get xs i ≡ Some x) × (f x ≡ y)
mapped_at f [] i y h = absurd cc
mapped_at f (x ∷ xs) zero y h = (x, refl, same_some (f x) y h)
mapped_at f (x ∷ xs) (suc i) y h = mapped_at f xs i y h
