-- Elements of lists and of what a test keeps of them; lists in which no element stands twice.
use Rattle.std.proofs.Common.{◌≡◌, ℕ, zero, suc, ◌<◌, Bool, true, false, cond, inl, inr, ◌⊎◌, ⊎_elim, List, [], ◌∷◌, ◌++◌, filter, length, Contains, Some, slice_get, slice_set, refl, ap, sym, ◌∙◌, subst, arith}
use Rattle.std.proofs.lemmas.List.Elements.{filter-append, Contains-append_right}
use Rattle.std.proofs.lemmas.Option.{same_Some}
use Rattle.tm_base.specs.Orders.{StandsOnce}
use Rattle.tm_base.specs.declared.events.Entry.{Entry}
use Rattle.tm_replay.proofs.SliceLemmas.{Contains-first, slice_get-set_kept}

-- nothing is an element of the empty list
pub Contains-none : {A : Type 0} (x : A) → Contains [] x → ⊥
Contains-none x within = omega (arith, within.1)

-- the first one is an element, and so is each of the others
pub Contains-head : {A : Type 0} (y : A) (xs : List A) → Contains (y ∷ xs) y
Contains-head y xs = (0, omega arith, refl)

pub Contains-next : {A : Type 0} (y : A) (xs : List A) (x : A) → Contains xs x → Contains (y ∷ xs) x
Contains-next y xs x within = (suc within.0, omega (arith, within.1), within.2)

-- the one in the middle is an element
pub Contains-middle : {A : Type 0} (prefix back : List A) (x : A) → Contains (prefix ++ x ∷ back) x
Contains-middle prefix back x = Contains-append_right prefix (x ∷ back) x (Contains-head x back)

-- an element that passes is kept
pub Contains-filter : {A : Type 0} (p : A → Bool) (xs : List A) (x : A) → Contains xs x → p x ≡ true → Contains (filter p xs) x
Contains-filter p [] x within passes = absurd (Contains-none x within)
Contains-filter {A} p (y ∷ xs) x within passes = go (p y) refl (Contains-first y xs x within) (λ later. Contains-filter p xs x later passes)
  where
    go : (b : Bool) → p y ≡ b → (x ≡ y) ⊎ Contains xs x → (Contains xs x → Contains (filter p xs) x) → Contains (cond b (y ∷ filter p xs) (filter p xs)) x
    go true e (inl same) keep = subst (Contains (y ∷ filter p xs)) (sym same) (Contains-head y (filter p xs))
    go true e (inr later) keep = Contains-next y (filter p xs) x (keep later)
    go false e (inl same) keep = let fails : true ≡ false = sym passes ∙ ap p same ∙ e in absurd cc
    go false e (inr later) keep = keep later

-- what is kept is an element that passes
pub Contains-filtered : {A : Type 0} (p : A → Bool) (xs : List A) (x : A) → Contains (filter p xs) x → Contains xs x × (p x ≡ true)
Contains-filtered p [] x within = absurd (Contains-none x within)
Contains-filtered {A} p (y ∷ xs) x within = go (p y) refl within (Contains-filtered p xs x)
  where
    go : (b : Bool) → p y ≡ b → Contains (cond b (y ∷ filter p xs) (filter p xs)) x → (Contains (filter p xs) x → Contains xs x × (p x ≡ true)) → Contains (y ∷ xs) x × (p x ≡ true)
    go true e kept later = ⊎_elim
        (λ (same : x ≡ y). (subst (Contains (y ∷ xs)) (sym same) (Contains-head y xs), ap p same ∙ e))
        (λ (behind : Contains (filter p xs) x). let was = later behind in (Contains-next y xs x was.0, was.1))
        (Contains-first y (filter p xs) x kept)
    go false e kept later = let was = later kept in (Contains-next y xs x was.0, was.1)

-- what is kept before and after an element that passes
pub filter-middle : {A : Type 0} (p : A → Bool) (prefix : List A) (x : A) (back : List A) → p x ≡ true → filter p (prefix ++ x ∷ back) ≡ filter p prefix ++ x ∷ filter p back
filter-middle p prefix x back passes = filter-append p prefix (x ∷ back) ∙ ap (λ b. filter p prefix ++ cond b (x ∷ filter p back) (filter p back)) passes

-- each element stands once
abbrev pub AppearOnce : {A : Type 0} → List A → Type 0
AppearOnce [] = Unit {0}
AppearOnce (x ∷ xs) = (Contains xs x → ⊥) × AppearOnce xs

pub AppearOnce-filter : {A : Type 0} (p : A → Bool) (xs : List A) → AppearOnce xs → AppearOnce (filter p xs)
AppearOnce-filter p [] once = tt
AppearOnce-filter {A} p (x ∷ xs) once = go (p x) (AppearOnce-filter p xs once.1)
  where
    go : (b : Bool) → AppearOnce (filter p xs) → AppearOnce (cond b (x ∷ filter p xs) (filter p xs))
    go true later = ((λ again. once.0 (Contains-filtered p xs x again).0), later)
    go false later = later

-- an element that stands once takes the list apart in one way
pub split-one : {A : Type 0} (prefix back prefix' back' : List A) (x : A) → AppearOnce (prefix ++ x ∷ back) → prefix ++ x ∷ back ≡ prefix' ++ x ∷ back' → prefix ≡ prefix'
split-one [] back [] back' x once same = refl
split-one {A} [] back (y ∷ prefix') back' x once same =
    let later : back ≡ prefix' ++ x ∷ back' = cc same in
    absurd (once.0 (subst (λ (l : List A). Contains l x) (sym later) (Contains-middle prefix' back' x)))
split-one {A} (y ∷ prefix) back [] back' x once same =
    let first : y ≡ x = cc same in
    absurd (once.0 (subst (Contains (prefix ++ x ∷ back)) (sym first) (Contains-middle prefix back x)))
split-one (y ∷ prefix) back (z ∷ prefix') back' x once same =
    let first : y ≡ z = cc same in
    let later : prefix ++ x ∷ back ≡ prefix' ++ x ∷ back' = cc same in
    ap (λ w. w ∷ prefix) first ∙ ap (λ l. z ∷ l) (split-one prefix back prefix' back' x once.1 later)

-- what is kept in front of an element that passes is what stands in front of it among all that is kept
pub kept-prefix : {A : Type 0} (p : A → Bool) (xs prefix back prefix' back' : List A) (x : A) → xs ≡ prefix ++ x ∷ back → p x ≡ true → AppearOnce (filter p xs)
    → filter p xs ≡ prefix' ++ x ∷ back' → filter p prefix ≡ prefix'
kept-prefix {A} p xs prefix back prefix' back' x parts passes once kept =
    let whole : filter p xs ≡ filter p prefix ++ x ∷ filter p back = ap (filter p) parts ∙ filter-middle p prefix x back passes in
    split-one (filter p prefix) (filter p back) prefix' back' x (subst AppearOnce whole once) (sym whole ∙ kept)

-- no element at two places
pub AppearOnce-stands : (es : List Entry) → StandsOnce es → AppearOnce es
AppearOnce-stands [] once = tt
AppearOnce-stands (e ∷ es) once = (
  λ again.
      let at = placed es e again in
      let same : 0 ≡ suc at.0 = once 0 (suc at.0) e refl at.1 in
      omega (arith, same),
  AppearOnce-stands es (λ i k f first second. let same : suc i ≡ suc k = once (suc i) (suc k) f first second in omega (arith, same)),
)
  where
    placed : (fs : List Entry) (f : Entry) → Contains fs f → (i : ℕ) × (slice_get fs i ≡ Some f)
    placed [] f within = absurd (Contains-none f within)
    placed (g ∷ fs) f within = ⊎_elim
        (λ (same : f ≡ g). (zero, ap (λ h. Some h) (sym same)))
        (λ (later : Contains fs f). let at = placed fs f later in (suc at.0, at.1))
        (Contains-first g fs f within)

-- an element of a list at another place than the one that is set stays there
pub slice_get-set_other : {A : Type 0} (xs : List A) (i k : ℕ) (v x : A) → (k ≡ i → ⊥) → slice_get xs k ≡ Some x → slice_get (slice_set xs i v) k ≡ Some x
slice_get-set_other xs i k v x apart found = ⊎_elim (λ same. absurd (apart same.0)) (λ kept. kept) (slice_get-set_kept xs i k v x found)

-- lists that have equal elements at a place
pub same-found : {A : Type 0} (xs ys : List A) (i : ℕ) (x y : A) → slice_get xs i ≡ Some x → slice_get ys i ≡ Some y → x ≡ y → slice_get xs i ≡ slice_get ys i
same-found xs ys i x y left right same = left ∙ ap (λ z. Some z) same ∙ sym right

-- lists of one length that have the same at each place are equal
pub same-places : {A : Type 0} (xs ys : List A) → length xs ≡ length ys → ((i : ℕ) → i < length xs → slice_get xs i ≡ slice_get ys i) → xs ≡ ys
same-places [] [] long at = refl
same-places [] (y ∷ ys) long at = absurd (omega (arith, long))
same-places (x ∷ xs) [] long at = absurd (omega (arith, long))
same-places (x ∷ xs) (y ∷ ys) long at =
    let first : x ≡ y = same_Some x y (at 0 (omega arith)) in
    ap (λ z. z ∷ xs) first ∙ ap (λ l. y ∷ l) (same-places xs ys (omega (arith, long)) (λ i h. at (suc i) (omega (arith, h))))
