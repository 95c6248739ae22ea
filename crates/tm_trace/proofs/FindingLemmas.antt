-- What is found in a list where at most one element passes, and what numbers have to do with it.
use Rattle.std.proofs.Common.{◌≡◌, ℕ, Bool, true, false, ◌==◌, ◌&&◌, ◌⊎◌, ⊎_elim, List, ◌∷◌, ◌++◌, find, Option, Some, None, is_some, Contains, refl, sym, ap, ◌∙◌, subst}
use Rattle.std.specs.Prelude.{IsPermutation}
use Rattle.std.proofs.lemmas.Bool.{eq-eqb, and_from}
use Rattle.std.proofs.lemmas.List.{append_assoc}
use Rattle.std.proofs.lemmas.List.Elements.{Contains-append_cases}
use Rattle.std.proofs.lemmas.List.Sorted.{Contains-permutation, IsPermutation-sym}
use Rattle.tm_base.specs.declared.events.Entry.{Entry}
use Rattle.tm_merge.proofs.ListLemmas.{Contains-first, Contains-parts}
use Rattle.tm_merge.proofs.OrderLemmas.{find-element}
use Rattle.tm_merge.proofs.PredecessorsLemmas.{found-some}
use Rattle.tm_order.proofs.Elements.{Contains-middle}

-- an element that passes isn't overlooked
none-passes : {A : Type 0} (p : A → Bool) (xs : List A) (x : A) → find p xs ≡ None → Contains xs x → p x ≡ true → ⊥
none-passes p xs x none there passes =
    let some : is_some (find p xs) ≡ true = found-some p xs x there passes in
    let fails : is_some (find p xs) ≡ false = ap is_some none in
    cc

-- where all that pass are equal, the order of the list makes no difference to what is found
pub found-same : {A : Type 0} (p : A → Bool) (xs ys : List A) → ((x y : A) → Contains xs x → Contains xs y → p x ≡ true → p y ≡ true → x ≡ y) → IsPermutation xs ys → find p xs ≡ find p ys
found-same {A} p xs ys one permutation = go (find p xs) refl (find p ys) refl
  where
    back : (y : A) → Contains ys y → Contains xs y
    back y there = Contains-permutation ys xs y (IsPermutation-sym xs ys permutation) there

    go : (o : Option A) → find p xs ≡ o → (q : Option A) → find p ys ≡ q → find p xs ≡ find p ys
    go None e None f = e ∙ sym f
    go None e (Some y) f =
        let element = find-element p ys y f in
        absurd (none-passes p xs y e (back y element.0) element.1)
    go (Some x) e None f =
        let element = find-element p xs x e in
        absurd (none-passes p ys x f (Contains-permutation xs ys x permutation element.0) element.1)
    go (Some x) e (Some y) f =
        let first = find-element p xs x e in
        let second = find-element p ys y f in
        e ∙ ap Some (one x y first.0 (back y second.0) first.1 second.1) ∙ sym f

-- the events of one key, which is the thread or the object, and their numbers in it
module _ (key number : Entry → ℕ) where
  abbrev pub is_at : (k n : ℕ) → Entry → Bool
  is_at k n a = key a == k && number a == n

  pub at-own : (a : Entry) (k n : ℕ) → key a ≡ k → number a ≡ n → is_at k n a ≡ true
  at-own a k n keys numbers = and_from (key a == k) (number a == n) (eq-eqb (key a) k keys) (eq-eqb (number a) n numbers)

  -- where no event has the number of one before it, events with one number are equal
  pub own-one : (es : List Entry) → ((prefix back : List Entry) (e : Entry) → es ≡ prefix ++ e ∷ back → find (is_at (key e) (number e)) prefix ≡ None)
      → (a b : Entry) → Contains es a → Contains es b → key a ≡ key b → number a ≡ number b → a ≡ b
  own-one es new a b first second keys numbers =
      let cut = Contains-parts es a first in
      let behind : Contains cut.1 b → a ≡ b = λ there.
      let rest = Contains-parts cut.1 b there in
      let parts : es ≡ (cut.0 ++ a ∷ rest.0) ++ b ∷ rest.1 = cut.2 ∙ ap (λ (l : List Entry). cut.0 ++ a ∷ l) rest.2 ∙ sym (append_assoc cut.0 (a ∷ rest.0) (b ∷ rest.1)) in
      absurd (none-passes (is_at (key b) (number b)) (cut.0 ++ a ∷ rest.0) a (new (cut.0 ++ a ∷ rest.0) rest.1 b parts) (Contains-middle cut.0 rest.0 a) (at-own a (key b) (number b) keys numbers)) in
      ⊎_elim
      (λ (before : Contains cut.0 b).
      absurd (none-passes (is_at (key a) (number a)) cut.0 b (new cut.0 cut.1 a cut.2) before (at-own b (key a) (number a) (sym keys) (sym numbers))))
      (λ (later : Contains (a ∷ cut.1) b). ⊎_elim (λ (same : b ≡ a). sym same) behind (Contains-first a cut.1 b later))
      (Contains-append_cases cut.0 (a ∷ cut.1) b (subst (λ (l : List Entry). Contains l b) cut.2 second))
