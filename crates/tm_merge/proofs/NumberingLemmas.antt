-- Lists of events in the order of their places.
use Rattle.std.proofs.Common.{◌≡◌, ℕ, suc, ◌+◌, Bool, true, false, cond, ◌==◌, ◌&&◌, ◌||◌, nat_lt, nat_le, ◌⊎◌, inl, inr, ⊎_elim, List, [], ◌∷◌, ◌++◌, filter, Option, Some, None, is_some, length, length-append, Contains, refl, sym, ap, ◌∙◌, subst, arith}
use Rattle.std.specs.Option.{option_or}
use Rattle.std.proofs.lemmas.Bool.{cases_Bool, cond-true, cond-false, eqb-true, eq-eqb, and_from}
use Rattle.std.proofs.lemmas.Bool.Decides.{nat_tests}
use Rattle.std.proofs.lemmas.List.{append_assoc, append-nil}
use Rattle.std.proofs.lemmas.List.Elements.{Contains-push_cases}
use Rattle.std.proofs.lemmas.List.Folds.{find-append}
use Rattle.tm_base.specs.declared.events.Entry.{Entry}
use Rattle.tm_merge.specs.Numbering.{IsNumberedBy}
use Rattle.tm_merge.specs.StoredArrivals.{found}
use Rattle.tm_merge.proofs.ListLemmas.{filter-snoc_in, filter-snoc_out}

-- a value is there in the first or in the second
pub is_some-or : {A : Type 0} (o p : Option A) → is_some (option_or o p) ≡ (is_some o || is_some p)
is_some-or None p = refl
is_some-or (Some x) p = refl

is_some-cond : {A : Type 0} (b : Bool) (x : A) → is_some (cond b (Some x) None) ≡ b
is_some-cond true x = refl
is_some-cond false x = refl

pub none_from : {A : Type 0} (o : Option A) → is_some o ≡ false → o ≡ None
none_from None h = refl
none_from (Some x) h = absurd cc

-- an element of a list with one more at its end is the last one, or stands before it
pub snoc-split : {A : Type 0} (xs : List A) (y : A) (prefix : List A) (x : A) (back : List A) → xs ++ y ∷ [] ≡ prefix ++ x ∷ back → ((prefix ≡ xs) × (x ≡ y)) ⊎ ((rest : List A) × (xs ≡ prefix ++ x ∷ rest))
snoc-split [] y [] x back h = inl (refl, cc)
snoc-split [] y (f ∷ []) x back h = absurd cc
snoc-split [] y (f ∷ g ∷ prefix) x back h = absurd cc
snoc-split (z ∷ xs) y [] x back h = let same : z ≡ x = cc in inr (xs, ap (λ w. w ∷ xs) same)
snoc-split (z ∷ xs) y (f ∷ prefix) x back h =
    let same : z ≡ f = cc in
    let rest : xs ++ y ∷ [] ≡ prefix ++ x ∷ back = cc in
    ⊎_elim
    (λ last. inl (cc, last.1))
    (λ before. inr (before.0, ap (λ w. w ∷ xs) same ∙ ap (λ l. f ∷ l) before.1))
    (snoc-split xs y prefix x back rest)

module _ (line number : Entry → ℕ) where
  -- how many events of the line there are
  abbrev pub count_in : List Entry → ℕ → ℕ
  count_in es k = length (filter (λ e. line e == k) es)

  pub count_in-snoc : (es : List Entry) (e : Entry) (k : ℕ) → count_in (es ++ e ∷ []) k ≡ count_in es k + cond (line e == k) 1 0
  count_in-snoc es e k = ⊎_elim
      (λ (same : (line e == k) ≡ true).
      let more = ap length (filter-snoc_in (λ d. line d == k) es e same) ∙ length-append (filter (λ d. line d == k) es) (e ∷ []) in
      let one = cond-true {A = ℕ} (line e == k) 1 0 same in
      omega (arith, more, one))
      (λ (other : (line e == k) ≡ false).
      let same = ap length (filter-snoc_out (λ d. line d == k) es e other) in
      let none = cond-false {A = ℕ} (line e == k) 1 0 other in
      omega (arith, same, none))
      (cases_Bool (line e == k))

  pub found-snoc : (es : List Entry) (e : Entry) (k n : ℕ) → found line number (es ++ e ∷ []) k n ≡ option_or (found line number es k n) (cond (line e == k && number e == n) (Some e) None)
  found-snoc es e k n = find-append (λ d. line d == k && number d == n) es (e ∷ [])

  -- in each line just the numbers from 1 to how many events it has are there
  abbrev pub IsExact : List Entry → Type 0
  IsExact es = (k n : ℕ) → is_some (found line number es k n) ≡ (nat_lt 0 n && nat_le n (count_in es k))

  pub exact-snoc : (es : List Entry) (e : Entry) → IsExact es → number e ≡ suc (count_in es (line e)) → IsExact (es ++ e ∷ [])
  exact-snoc es e exact next k n =
      let found_is = ap is_some (found-snoc es e k n) ∙ is_some-or (found line number es k n) (cond (line e == k && number e == n) (Some e) None) in
      let here = is_some-cond (line e == k && number e == n) e in
      let counted = count_in-snoc es e k in
      let before = exact k n in
      ⊎_elim
      (λ (same : (line e == k) ≡ true).
      let is : line e ≡ k = eqb-true (line e) k same in
      let next_here : number e ≡ suc (count_in es k) = subst (λ j. number e ≡ suc (count_in es j)) is next in
      grind (arith, nat_tests))
      (λ (other : (line e == k) ≡ false). grind (arith, nat_tests))
      (cases_Bool (line e == k))

  -- every event of the list is the one that is found by its number
  abbrev pub Owns : List Entry → Type 0
  Owns es = (e : Entry) → Contains es e → found line number es (line e) (number e) ≡ Some e

  pub owns-snoc : (es : List Entry) (e : Entry) → IsExact es → number e ≡ suc (count_in es (line e)) → Owns es → Owns (es ++ e ∷ [])
  owns-snoc es e exact next owns x h = ⊎_elim
      (λ (before : Contains es x). found-snoc es e (line x) (number x) ∙ ap (λ o. option_or o (cond (line e == line x && number e == number x) (Some e) None)) (owns x before))
      (λ (last : e ≡ x).
      let absent : found line number es (line e) (number e) ≡ None = none_from (found line number es (line e) (number e)) (exact (line e) (number e) ∙ grind (arith, nat_tests)) in
      let here : (line e == line e && number e == number e) ≡ true = and_from (line e == line e) (number e == number e) (eq-eqb (line e) (line e) refl) (eq-eqb (number e) (number e) refl) in
      subst (λ y. found line number (es ++ e ∷ []) (line y) (number y) ≡ Some y) last
      (found-snoc es e (line e) (number e) ∙ ap (λ o. option_or o (cond (line e == line e && number e == number e) (Some e) None)) absent ∙ cond-true (line e == line e && number e == number e) (Some e) None here))
      (Contains-push_cases es e x h)

  -- what holds of the empty list, and stays with each next event, holds of the whole list
  pub walk : (P : List Entry → Type 0) → ((es : List Entry) (e : Entry) → P es → number e ≡ suc (count_in es (line e)) → P (es ++ e ∷ [])) → (prefix rest : List Entry) → P prefix → IsNumberedBy line number (prefix ++ rest) → P (prefix ++ rest)
  walk P step prefix [] holds numbered = subst P (sym (append-nil prefix)) holds
  walk P step prefix (e ∷ rest) holds numbered =
      let same : (prefix ++ e ∷ []) ++ rest ≡ prefix ++ e ∷ rest = append_assoc prefix (e ∷ []) rest in
      subst P same (walk P step (prefix ++ e ∷ []) rest (step prefix e holds (numbered prefix rest e refl)) (subst (IsNumberedBy line number) (sym same) numbered))

  -- the numbers of a numbered list are there just once
  pub exact_owns : (es : List Entry) → IsNumberedBy line number es → IsExact es × Owns es
  exact_owns es numbered =
      let P : List Entry → Type 0 = λ ds. IsExact ds × Owns ds in
      let step : (ds : List Entry) (e : Entry) → P ds → number e ≡ suc (count_in ds (line e)) → P (ds ++ e ∷ []) = λ ds e both next. (exact-snoc ds e both.0 next, owns-snoc ds e both.0 next both.1) in
      walk P step [] es ((λ k n. grind (arith, nat_tests)), (λ e h. absurd (omega (arith, h.1)))) numbered

  -- one more event, with the next number of its line
  pub numbered-snoc : (es : List Entry) (e : Entry) → IsNumberedBy line number es → number e ≡ suc (count_in es (line e)) → IsNumberedBy line number (es ++ e ∷ [])
  numbered-snoc es e numbered next prefix back x h = ⊎_elim
      (λ (last : (prefix ≡ es) × (x ≡ e)). subst (λ ds. number x ≡ suc (count_in ds (line x))) (sym last.0) (subst (λ y. number y ≡ suc (count_in es (line y))) (sym last.1) next))
      (λ (before : (rest : List Entry) × (es ≡ prefix ++ x ∷ rest)). numbered prefix before.0 x before.1)
      (snoc-split es e prefix x back h)
