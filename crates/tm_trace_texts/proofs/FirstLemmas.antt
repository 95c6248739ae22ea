-- What stands before the first element that passes, and behind it.
use Rattle.std.proofs.Common.{◌≡◌, suc, ◌+◌, ◌<◌, Bool, true, false, not, ◌||◌, List, [], ◌∷◌, ◌++◌, take, drop, length, refl, ap, ◌∙◌, arith}
use Rattle.std.specs.List.{after_first, before_first, list_any, position_or_len}
use Rattle.std.proofs.lemmas.Bool.{cond-false, cond-true, or_parts}

here : {X : Type 0} (p : X → Bool) (x : X) (xs : List X) → p x ≡ true → position_or_len p (x ∷ xs) ≡ 0
here p x xs h = cond-false (not (p x)) _ _ (ap not h)

later : {X : Type 0} (p : X → Bool) (x : X) (xs : List X) → p x ≡ false → position_or_len p (x ∷ xs) ≡ suc (position_or_len p xs)
later p x xs h =
    let one : 1 + position_or_len p xs ≡ suc (position_or_len p xs) = omega arith in
    cond-true (not (p x)) _ _ (ap not h) ∙ one

pub before-here : {X : Type 0} (p : X → Bool) (x : X) (xs : List X) → p x ≡ true → before_first p (x ∷ xs) ≡ []
before-here p x xs h = ap (λ n. take n (x ∷ xs)) (here p x xs h)

pub before-later : {X : Type 0} (p : X → Bool) (x : X) (xs : List X) → p x ≡ false → before_first p (x ∷ xs) ≡ x ∷ before_first p xs
before-later p x xs h = ap (λ n. take n (x ∷ xs)) (later p x xs h)

pub after-here : {X : Type 0} (p : X → Bool) (x : X) (xs : List X) → p x ≡ true → after_first p (x ∷ xs) ≡ xs
after-here p x xs h = ap (λ n. drop (n + 1) (x ∷ xs)) (here p x xs h)

pub after-later : {X : Type 0} (p : X → Bool) (x : X) (xs : List X) → p x ≡ false → after_first p (x ∷ xs) ≡ after_first p xs
after-later p x xs h =
    let next : suc (position_or_len p xs) + 1 ≡ suc (position_or_len p xs + 1) = omega arith in
    ap (λ n. drop (n + 1) (x ∷ xs)) (later p x xs h) ∙ ap (λ n. drop n (x ∷ xs)) next

pub any-here : {X : Type 0} (p : X → Bool) (x : X) (xs : List X) → p x ≡ true → list_any p (x ∷ xs) ≡ true
any-here p x xs h = ap (λ b. b || list_any p xs) h

pub any-later : {X : Type 0} (p : X → Bool) (x : X) (xs : List X) → p x ≡ false → list_any p (x ∷ xs) ≡ list_any p xs
any-later p x xs h = ap (λ b. b || list_any p xs) h

-- where one passes, the first is within the list
pub within : {X : Type 0} (p : X → Bool) (xs : List X) → list_any p xs ≡ true → position_or_len p xs < length xs
within p [] h = absurd (cc)
within p (x ∷ xs) h = within_by p x xs (p x) refl h (within p xs)
  where
    within_by : {X : Type 0} (p : X → Bool) (x : X) (xs : List X) (b : Bool) → p x ≡ b → (b || list_any p xs) ≡ true → (list_any p xs ≡ true → position_or_len p xs < length xs) → position_or_len p (x ∷ xs) < length (x ∷ xs)
    within_by p x xs true e h ih = let zeroth = here p x xs e in omega arith
    within_by p x xs false e h ih = let next = later p x xs e in let rest = ih h in omega arith

-- the first that passes stands behind others that don't
pub any-behind : {X : Type 0} (p : X → Bool) (xs : List X) (y : X) (ys : List X) → list_any p xs ≡ false → p y ≡ true → list_any p (xs ++ y ∷ ys) ≡ true
any-behind p [] y ys h is = any-here p y ys is
any-behind p (x ∷ xs) y ys h is =
    let parts = or_parts (p x) (list_any p xs) h in
    any-later p x (xs ++ y ∷ ys) parts.0 ∙ any-behind p xs y ys parts.1 is

pub before-behind : {X : Type 0} (p : X → Bool) (xs : List X) (y : X) (ys : List X) → list_any p xs ≡ false → p y ≡ true → before_first p (xs ++ y ∷ ys) ≡ xs
before-behind p [] y ys h is = before-here p y ys is
before-behind p (x ∷ xs) y ys h is =
    let parts = or_parts (p x) (list_any p xs) h in
    before-later p x (xs ++ y ∷ ys) parts.0 ∙ ap (λ zs. x ∷ zs) (before-behind p xs y ys parts.1 is)

pub after-behind : {X : Type 0} (p : X → Bool) (xs : List X) (y : X) (ys : List X) → list_any p xs ≡ false → p y ≡ true → after_first p (xs ++ y ∷ ys) ≡ ys
after-behind p [] y ys h is = after-here p y ys is
after-behind p (x ∷ xs) y ys h is =
    let parts = or_parts (p x) (list_any p xs) h in
    after-later p x (xs ++ y ∷ ys) parts.0 ∙ after-behind p xs y ys parts.1 is
