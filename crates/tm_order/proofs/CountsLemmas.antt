-- How many elements of a list pass a test.
use Rattle.std.proofs.Common.{◌≡◌, ℕ, zero, suc, ◌+◌, ◌≤◌, Bool, true, false, cond, ◌&&◌, ◌||◌, ◌==◌, inl, inr, ◌⊎◌, ⊎_elim, List, [], ◌∷◌, filter, length, count_by, Contains, refl, ap, sym, ◌∙◌, arith, eq-eqb, ne_eqb}
use Rattle.std.proofs.lemmas.Bool.{cases_Bool, cases_eq, or_cases, eqb-true}
use Rattle.std.proofs.lemmas.List.Sums.{sum_by-cons, count_by-le-length}
use Rattle.tm_replay.proofs.SliceLemmas.{Contains-first}
use Rattle.tm_order.proofs.Elements.{Contains-none, Contains-head, Contains-next}

count-cons : {A : Type 0} (p : A → Bool) (x : A) (xs : List A) → count_by p (x ∷ xs) ≡ cond (p x) 1 0 + count_by p xs
count-cons p x xs = sum_by-cons (λ y. cond (p y) 1 0) x xs

pub count-in : {A : Type 0} (p : A → Bool) (x : A) (xs : List A) → p x ≡ true → count_by p (x ∷ xs) ≡ suc (count_by p xs)
count-in p x xs passes =
    let first : ◌≡◌ {A = ℕ} (cond (p x) 1 0) 1 = ap (λ (b : Bool). cond {A = ℕ} b 1 0) passes in
    omega (arith, count-cons p x xs, first)

count-out : {A : Type 0} (p : A → Bool) (x : A) (xs : List A) → p x ≡ false → count_by p (x ∷ xs) ≡ count_by p xs
count-out p x xs fails =
    let first : ◌≡◌ {A = ℕ} (cond (p x) 1 0) 0 = ap (λ (b : Bool). cond {A = ℕ} b 1 0) fails in
    omega (arith, count-cons p x xs, first)

pub count-later : {A : Type 0} (p : A → Bool) (x : A) (xs : List A) → count_by p xs ≤ count_by p (x ∷ xs)
count-later p x xs = omega (arith, count-cons p x xs)

-- an element that passes is counted
pub count-some : {A : Type 0} (p : A → Bool) (xs : List A) (x : A) → Contains xs x → p x ≡ true → 1 ≤ count_by p xs
count-some p [] x within passes = absurd (Contains-none x within)
count-some {A} p (y ∷ xs) x within passes = ⊎_elim
    (λ (same : x ≡ y). let one = count-in p y xs (ap p (sym same) ∙ passes) in omega (arith, one))
    (λ (later : Contains xs x). let more = count-some p xs x later passes in let here = count-later p y xs in omega (arith, more, here))
    (Contains-first y xs x within)

-- where one is counted, one passes
pub counted-some : {A : Type 0} (p : A → Bool) (xs : List A) → 1 ≤ count_by p xs → (x : A) × Contains xs x × (p x ≡ true)
counted-some p [] one = absurd (omega (arith, one))
counted-some {A} p (x ∷ xs) one = ⊎_elim
    (λ (passes : p x ≡ true). (x, Contains-head x xs, passes))
    (λ (fails : p x ≡ false).
    let others = count-out p x xs fails in
    let found = counted-some p xs (omega (arith, one, others)) in
    (found.0, Contains-next x xs found.0 found.1, found.2))
    (cases_Bool (p x))

-- where at most one is counted, those that pass are one
pub counted-one : {A : Type 0} (p : A → Bool) (xs : List A) (x y : A) → count_by p xs ≤ 1 → Contains xs x → Contains xs y → p x ≡ true → p y ≡ true → x ≡ y
counted-one p [] x y one first second px py = absurd (Contains-none x first)
counted-one {A} p (z ∷ xs) x y one first second px py = go (Contains-first z xs x first) (Contains-first z xs y second) (counted-one p xs x y)
  where
    go : (x ≡ z) ⊎ Contains xs x → (y ≡ z) ⊎ Contains xs y
        → (count_by p xs ≤ 1 → Contains xs x → Contains xs y → p x ≡ true → p y ≡ true → x ≡ y) → x ≡ y
    go (inl a) (inl b) later = a ∙ sym b
    go (inl a) (inr b) later =
        let two = count-in p z xs (ap p (sym a) ∙ px) in
        let more = count-some p xs y b py in
        absurd (omega (arith, one, two, more))
    go (inr a) (inl b) later =
        let two = count-in p z xs (ap p (sym b) ∙ py) in
        let more = count-some p xs x a px in
        absurd (omega (arith, one, two, more))
    go (inr a) (inr b) later = let less = count-later p z xs in later (omega (arith, one, less)) a b px py

-- what a filter keeps, counted by another test
pub count-filter : {A : Type 0} (p q : A → Bool) (xs : List A) → count_by q (filter p xs) ≡ count_by (λ x. p x && q x) xs
count-filter p q [] = refl
count-filter {A} p q (x ∷ xs) = go (p x) (count-filter p q xs) ∙ sym (count-cons (λ y. p y && q y) x xs)
  where
    go : (b : Bool) → count_by q (filter p xs) ≡ count_by (λ y. p y && q y) xs
        → count_by q (cond b (x ∷ filter p xs) (filter p xs)) ≡ cond (b && q x) 1 0 + count_by (λ y. p y && q y) xs
    go true same = count-cons q x (filter p xs) ∙ ap (λ n. cond (q x) 1 0 + n) same
    go false same = omega (arith, same)

-- where all are counted, each passes
pub all-counted : {A : Type 0} (p : A → Bool) (xs : List A) (x : A) → length xs ≤ count_by p xs → Contains xs x → p x ≡ true
all-counted p [] x all within = absurd (Contains-none x within)
all-counted {A} p (y ∷ xs) x all within = go (cases_Bool (p y)) (Contains-first y xs x within) (all-counted p xs x)
  where
    go : (p y ≡ true) ⊎ (p y ≡ false) → (x ≡ y) ⊎ Contains xs x → (length xs ≤ count_by p xs → Contains xs x → p x ≡ true) → p x ≡ true
    go (inl passes) (inl same) later = ap p same ∙ passes
    go (inl passes) (inr behind) later = let here = count-in p y xs passes in later (omega (arith, all, here)) behind
    go (inr fails) here later =
        let none = count-out p y xs fails in
        let most = count_by-le-length p xs in
        absurd (omega (arith, all, none, most))

-- the number is one of the first ones, from 1 on
abbrev pub is_upto : {A : Type 0} → (A → ℕ) → ℕ → A → Bool
is_upto number zero x = false
is_upto number (suc n) x = is_upto number n x || number x == suc n

pub is_upto-within : {A : Type 0} (number : A → ℕ) (n : ℕ) (x : A) → is_upto number n x ≡ true → (1 ≤ number x) × (number x ≤ n)
is_upto-within number zero x passes = absurd cc
is_upto-within number (suc n) x passes = ⊎_elim
    (λ (before : is_upto number n x ≡ true). let within = is_upto-within number n x before in (within.0, omega (arith, within.1)))
    (λ (here : (number x == suc n) ≡ true). let is = eqb-true (number x) (suc n) here in (omega (arith, is), omega (arith, is)))
    (or_cases (is_upto number n x) (number x == suc n) passes)

-- those with one of the first numbers are those with one of the numbers before, and those with the last
count-upto : {A : Type 0} (number : A → ℕ) (n : ℕ) (xs : List A) → count_by (is_upto number (suc n)) xs ≡ count_by (is_upto number n) xs + count_by (λ x. number x == suc n) xs
count-upto number n [] = refl
count-upto {A} number n (x ∷ xs) =
    let all = count-cons (is_upto number (suc n)) x xs in
    let before = count-cons (is_upto number n) x xs in
    let last = count-cons (λ y. number y == suc n) x xs in
    let later = count-upto number n xs in
    let here = one (cases_eq (number x) (suc n)) in
    omega (arith, all, before, last, later, here)
  where
    one : (number x ≡ suc n) ⊎ (number x ≡ suc n → ⊥) → cond (is_upto number n x || number x == suc n) 1 0 ≡ cond (is_upto number n x) 1 0 + cond (number x == suc n) 1 0
    one (inl same) =
        let is : (number x == suc n) ≡ true = eq-eqb (number x) (suc n) same in
        let out : is_upto number n x ≡ false = ⊎_elim
        (λ (low : is_upto number n x ≡ true). let within = is_upto-within number n x low in absurd (omega (arith, within.1, same)))
        (λ (none : is_upto number n x ≡ false). none)
        (cases_Bool (is_upto number n x)) in
        ap (λ (b : Bool). cond (b || number x == suc n) 1 0) out ∙ ap (λ (b : Bool). cond b 1 0) is
        ∙ sym (ap (λ (b : Bool). cond b 1 0 + cond (number x == suc n) 1 0) out ∙ ap (λ (b : Bool). 0 + cond b 1 0) is)
    one (inr apart) =
        let is : (number x == suc n) ≡ false = ne_eqb (number x) (suc n) apart in
        ap (λ (b : Bool). cond (is_upto number n x || b) 1 0) is ∙ go (is_upto number n x) ∙ sym (ap (λ (b : Bool). cond (is_upto number n x) 1 0 + cond b 1 0) is)
      where
        go : (b : Bool) → cond (b || false) 1 0 ≡ cond b 1 0 + 0
        go true = refl
        go false = refl

count-none : {A : Type 0} (xs : List A) → count_by (λ _. false) xs ≡ 0
count-none [] = refl
count-none (x ∷ xs) = count-out (λ _. false) x xs refl ∙ count-none xs

-- where each number from 1 to n stands once, so many have one of them
pub count-all : {A : Type 0} (number : A → ℕ) (xs : List A) (n : ℕ) → ((k : ℕ) → 1 ≤ k → k ≤ n → count_by (λ x. number x == k) xs ≡ 1) → count_by (is_upto number n) xs ≡ n
count-all number xs zero each = count-none xs
count-all number xs (suc n) each =
    let before = count-all number xs n (λ k low high. each k low (omega (arith, high))) in
    let last = each (suc n) (omega arith) (omega arith) in
    let all = count-upto number n xs in
    omega (arith, before, last, all)
