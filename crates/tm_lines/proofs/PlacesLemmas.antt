-- The names that earlier lines declare, last first.
use Rattle.std.proofs.Common.{◌≡◌, ℕ, Bool, true, false, ◌||◌, List, [], ◌∷◌, map, reverse, Bor, refl, ap, ◌∙◌}
use Rattle.std.specs.List.{list_any}
use Rattle.std.proofs.lemmas.List.{reverse-append}
use Rattle.std.proofs.lemmas.List.Folds.{list_any-append}

list_any-map : {X Y : Type 0} (f : X → Y) (test : Y → Bool) (xs : List X) → list_any test (map f xs) ≡ list_any (λ x. test (f x)) xs
list_any-map f test [] = refl
list_any-map f test (x ∷ xs) = ap (λ b. test (f x) || b) (list_any-map f test xs)

swap_or : (a b : Bool) → (a || (b || false)) ≡ (b || a)
swap_or true true = refl
swap_or true false = refl
swap_or false true = refl
swap_or false false = refl

list_any-reverse : {X : Type 0} (test : X → Bool) (xs : List X) → list_any test (reverse xs) ≡ list_any test xs
list_any-reverse test [] = refl
list_any-reverse test (x ∷ xs) =
    ap (list_any test) (reverse-append (x ∷ []) xs) ∙ list_any-append test (reverse xs) (x ∷ []) ∙ swap_or (list_any test (reverse xs)) (test x) ∙ ap (λ b. test x || b) (list_any-reverse test xs)

pub list_any-earlier : (test : List ℕ → Bool) (names : List (Bor (List ℕ))) → list_any test (reverse (map (λ name. name.now) names)) ≡ list_any (λ name. test name.now) names
list_any-earlier test names =
    list_any-reverse test (map (λ name. name.now) names) ∙ list_any-map (λ (name : Bor (List ℕ)). name.now) test names
