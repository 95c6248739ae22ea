-- Lists of threads, each listed once.
use Rattle.std.proofs.Common.{◌≡◌, ◌≢◌, ℕ, zero, suc, ◌+◌, ◌<◌, ◌≤◌, Bool, true, false, not, ◌==◌, ◌||◌, eqb, ◌⊎◌, inl, inr, ⊎_elim, List, [], ◌∷◌, ◌++◌, filter, Some, slice_get, length, length-append, refl, sym, ap, ◌∙◌, subst, arith}
use Rattle.std.specs.List.{list_any, IsDistinct, AllByRecursion}
use Rattle.std.proofs.lemmas.Bool.{cases_Bool, cases_eq, cond-true, cond-false, or_parts, or_cases, eq-eqb, eqb-true}
use Rattle.std.proofs.lemmas.Bool.Decides.{nat_tests}
use Rattle.std.proofs.lemmas.List.Folds.{list_any-append}
use Rattle.std.proofs.lemmas.Map.Steps.{length-le_from_distinct_below}
use Rattle.tm_merge.specs.Candidates.{IsAmong}
use Rattle.tm_merge.specs.ReadyThreads.{is_listed, with_thread}

same_test : (x y : ℕ) → (x == y) ≡ (y == x)
same_test x y = grind (arith, nat_tests)

-- asked in the other order
pub asked : (ts : List ℕ) (t : ℕ) → is_listed ts t ≡ list_any (eqb t) ts
asked [] t = refl
asked (x ∷ ts) t = ap (λ b. b || is_listed ts t) (same_test x t) ∙ ap (λ b. (t == x) || b) (asked ts t)

-- a thread that isn't listed differs from each that is
others : (ts : List ℕ) (t : ℕ) → is_listed ts t ≡ false → AllByRecursion (λ y. eqb t y ≡ false) ts
others [] t h = tt
others (x ∷ ts) t h = (same_test t x ∙ (or_parts _ _ h).0, others ts t (or_parts _ _ h).1)

all-snoc : (x : ℕ) (ts : List ℕ) (t : ℕ) → AllByRecursion (λ y. eqb x y ≡ false) ts → eqb x t ≡ false → AllByRecursion (λ y. eqb x y ≡ false) (ts ++ t ∷ [])
all-snoc x [] t all new = (new, tt)
all-snoc x (y ∷ ts) t all new = (all.0, all-snoc x ts t all.1 new)

once-snoc : (ts : List ℕ) (t : ℕ) → IsDistinct eqb ts → is_listed ts t ≡ false → IsDistinct eqb (ts ++ t ∷ [])
unfolding IsDistinct
once-snoc [] t once new = (tt, tt)
once-snoc (x ∷ ts) t once new = (all-snoc x ts t once.0 (or_parts _ _ new).0, once-snoc ts t once.1 (or_parts _ _ new).1)

all-filter : (p : ℕ → Bool) (x : ℕ) (ts : List ℕ) → AllByRecursion (λ y. eqb x y ≡ false) ts → AllByRecursion (λ y. eqb x y ≡ false) (filter p ts)
all-filter p x [] all = tt
all-filter p x (y ∷ ts) all = ⊎_elim
    (λ (h : p y ≡ true). subst (AllByRecursion (λ z. eqb x z ≡ false)) (sym (cond-true (p y) (y ∷ filter p ts) (filter p ts) h)) (all.0, all-filter p x ts all.1))
    (λ (h : p y ≡ false). subst (AllByRecursion (λ z. eqb x z ≡ false)) (sym (cond-false (p y) (y ∷ filter p ts) (filter p ts) h)) (all-filter p x ts all.1))
    (cases_Bool (p y))

pub once-filter : (p : ℕ → Bool) (ts : List ℕ) → IsDistinct eqb ts → IsDistinct eqb (filter p ts)
unfolding IsDistinct
once-filter p [] once = tt
once-filter p (y ∷ ts) once = ⊎_elim
    (λ (h : p y ≡ true). subst (IsDistinct eqb) (sym (cond-true (p y) (y ∷ filter p ts) (filter p ts) h)) (all-filter p y ts once.0, once-filter p ts once.1))
    (λ (h : p y ≡ false). subst (IsDistinct eqb) (sym (cond-false (p y) (y ∷ filter p ts) (filter p ts) h)) (once-filter p ts once.1))
    (cases_Bool (p y))

-- what is listed with one more
pub listed-snoc : (ts : List ℕ) (t x : ℕ) → is_listed (ts ++ t ∷ []) x ≡ (is_listed ts x || (t == x))
listed-snoc ts t x = list_any-append (λ y. y == x) ts (t ∷ []) ∙ ap (λ b. is_listed ts x || b) (or_false (t == x))
  where
    or_false : (b : Bool) → (b || false) ≡ b
    or_false true = refl
    or_false false = refl

pub once-with : (ts : List ℕ) (t : ℕ) → IsDistinct eqb ts → IsDistinct eqb (with_thread ts t)
once-with ts t once = ⊎_elim
    (λ (h : is_listed ts t ≡ true). subst (IsDistinct eqb) (sym (cond-true (is_listed ts t) ts (ts ++ t ∷ []) h)) once)
    (λ (h : is_listed ts t ≡ false). subst (IsDistinct eqb) (sym (cond-false (is_listed ts t) ts (ts ++ t ∷ []) h)) (once-snoc ts t once h))
    (cases_Bool (is_listed ts t))

pub listed-with : (ts : List ℕ) (t x : ℕ) → is_listed (with_thread ts t) x ≡ (is_listed ts x || (t == x))
listed-with ts t x = ⊎_elim
    (λ (h : is_listed ts t ≡ true). ap (λ l. is_listed l x) (cond-true (is_listed ts t) ts (ts ++ t ∷ []) h) ∙ already (cases_Bool (t == x)) h)
    (λ (h : is_listed ts t ≡ false). ap (λ l. is_listed l x) (cond-false (is_listed ts t) ts (ts ++ t ∷ []) h) ∙ listed-snoc ts t x)
    (cases_Bool (is_listed ts t))
  where
    already : ((t == x) ≡ true) ⊎ ((t == x) ≡ false) → is_listed ts t ≡ true → is_listed ts x ≡ (is_listed ts x || (t == x))
    already (inl same) h = let is : t ≡ x = eqb-true t x same in let here : is_listed ts x ≡ true = subst (λ y. is_listed ts y ≡ true) is h in grind arith
    already (inr apart) h = grind arith

-- what is listed without one
pub listed-without : (ts : List ℕ) (t x : ℕ) → is_listed ts x ≡ true → t ≢ x → is_listed (filter (λ y. not (y == t)) ts) x ≡ true
listed-without [] t x h apart = h
listed-without (y ∷ ts) t x h apart = ⊎_elim
    (λ (out : (y == t) ≡ true).
    let is : y ≡ t = eqb-true y t out in
    ap (λ l. is_listed l x) (cond-false (not (y == t)) (y ∷ rest) rest (ap not out)) ∙ ⊎_elim
    (λ (here : (y == x) ≡ true). absurd (apart (sym is ∙ eqb-true y x here)))
    (λ (after : is_listed ts x ≡ true). listed-without ts t x after apart)
    (or_cases _ _ h))
    (λ (stays : (y == t) ≡ false).
    ap (λ l. is_listed l x) (cond-true (not (y == t)) (y ∷ rest) rest (ap not stays)) ∙ ⊎_elim
    (λ (here : (y == x) ≡ true). ap (λ b. b || is_listed rest x) here)
    (λ (after : is_listed ts x ≡ true). let more = listed-without ts t x after apart in grind arith)
    (or_cases _ _ h))
    (cases_Bool (y == t))
  where
    rest : List ℕ
    rest = filter (λ y. not (y == t)) ts

-- what a filter leaves was listed
pub listed_before : (p : ℕ → Bool) (ts : List ℕ) (x : ℕ) → is_listed (filter p ts) x ≡ true → is_listed ts x ≡ true
listed_before p [] x h = h
listed_before p (y ∷ ts) x h = ⊎_elim
    (λ (in' : p y ≡ true).
    let now : is_listed (y ∷ filter p ts) x ≡ true = subst (λ l. is_listed l x ≡ true) (cond-true (p y) (y ∷ filter p ts) (filter p ts) in') h in
    ⊎_elim
    (λ (here : (y == x) ≡ true). ap (λ b. b || is_listed ts x) here)
    (λ (after : is_listed (filter p ts) x ≡ true). let more = listed_before p ts x after in grind arith)
    (or_cases _ _ now))
    (λ (out : p y ≡ false).
    let more = listed_before p ts x (subst (λ l. is_listed l x ≡ true) (cond-false (p y) (y ∷ filter p ts) (filter p ts) out) h) in grind arith)
    (cases_Bool (p y))

-- what was taken from the list isn't listed
pub listed_apart : (ts : List ℕ) (t x : ℕ) → is_listed (filter (λ y. not (y == t)) ts) x ≡ true → (x == t) ≡ false
listed_apart [] t x h = absurd cc
listed_apart (y ∷ ts) t x h = ⊎_elim
    (λ (out : (y == t) ≡ true).
    listed_apart ts t x (subst (λ l. is_listed l x ≡ true) (cond-false (not (y == t)) (y ∷ rest) rest (ap not out)) h))
    (λ (stays : (y == t) ≡ false).
    let now : is_listed (y ∷ rest) x ≡ true = subst (λ l. is_listed l x ≡ true) (cond-true (not (y == t)) (y ∷ rest) rest (ap not stays)) h in
    ⊎_elim
    (λ (here : (y == x) ≡ true). subst (λ z. (z == t) ≡ false) (eqb-true y x here) stays)
    (λ (after : is_listed rest x ≡ true). listed_apart ts t x after)
    (or_cases _ _ now))
    (cases_Bool (y == t))
  where
    rest : List ℕ
    rest = filter (λ y. not (y == t)) ts

-- threads below a limit leave room for one that isn't listed
pub listed_room : (ts : List ℕ) (t n : ℕ) → IsDistinct eqb ts → ((x : ℕ) → is_listed ts x ≡ true → x < n) → t < n → is_listed ts t ≡ false → length ts < n
listed_room ts t n once known below new =
    let more = length-le_from_distinct_below (ts ++ t ∷ []) n (once-snoc ts t once new) (λ x h. within x (sym (listed-snoc ts t x) ∙ asked (ts ++ t ∷ []) x ∙ h)) in
    omega (arith, more, length-append ts (t ∷ []))
  where
    within : (x : ℕ) → (is_listed ts x || (t == x)) ≡ true → x < n
    within x h = ⊎_elim
        (λ (old : is_listed ts x ≡ true). known x old)
        (λ (last : (t == x) ≡ true). let is : t ≡ x = eqb-true t x last in omega (arith, is, below))
        (or_cases _ _ h)

-- a listed thread stands among all of the list
pub among_all : (ts : List ℕ) (n t : ℕ) → length ts ≤ n → is_listed ts t ≡ true → IsAmong ts n t
among_all [] n t all h = absurd cc
among_all (x ∷ ts) zero t all h = absurd (omega (arith, all))
among_all (x ∷ ts) (suc n) t all h = ⊎_elim
    (λ (here : (x == t) ≡ true). record { index = 0; below = omega arith; there = ap Some (eqb-true x t here) })
    (λ (after : is_listed ts t ≡ true). let rest = among_all ts n t (omega (arith, all)) after in record { index = suc rest.index; below = omega (arith, rest.below); there = rest.there })
    (or_cases _ _ h)

-- one more thread of the list
pub among_more : (ts : List ℕ) (n t u : ℕ) → slice_get ts n ≡ Some u → IsAmong ts (n + 1) t → IsAmong ts n t ⊎ (t ≡ u)
among_more ts n t u here among = ⊎_elim
    (λ (last : among.index ≡ n). inr (let there : slice_get ts n ≡ Some t = subst (λ i. slice_get ts i ≡ Some t) last among.there in cc))
    (λ (earlier : among.index ≢ n). inl (record { index = among.index; below = let b = among.below in omega (arith, b, earlier); there = among.there }))
    (cases_eq among.index n)

-- what stands at a place of the list is listed
pub listed_at : (ts : List ℕ) (i t : ℕ) → slice_get ts i ≡ Some t → is_listed ts t ≡ true
listed_at [] i t h = absurd cc
listed_at (x ∷ ts) zero t h = let is : x ≡ t = cc in ap (λ b. b || is_listed ts t) (eq-eqb x t is)
listed_at (x ∷ ts) (suc i) t h = let rest = listed_at ts i t h in grind arith
