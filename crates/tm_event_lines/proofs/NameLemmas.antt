-- Objects found by their names.
use Rattle.std.proofs.Common.{◌≡◌, ℕ, zero, suc, ◌+◌, ◌<◌, true, false, cond, List, [], ◌∷◌, length, drop, slice_get, Some, refl, sym, ap, ◌∙◌, subst, zero-add, arith}
use Rattle.std.specs.Prelude.{IfSome}
use Rattle.std.specs.Str.{bytes_eq}
use Rattle.std.proofs.lemmas.Bool.{cond_both, cond-true, cond-false}
use Rattle.tm_text.specs.declared.exercises.Declaration.{Declaration}
use Rattle.tm_text.specs.Texts.{number_in}

-- the object with a number, and those behind it
pub object_at : (ds : List Declaration) (o : ℕ) → o < length ds → (d : Declaration) × (slice_get ds o ≡ Some d) × (drop o ds ≡ d ∷ drop (suc o) ds)
object_at [] o h = absurd (omega arith)
object_at (d ∷ ds) zero h = (d, refl, refl)
object_at (d ∷ ds) (suc o) h = object_at ds o (omega arith)

-- the object with this number is the first that may have the name
pub number_in-at : (ds : List Declaration) (o : ℕ) (found name : List ℕ) → o < length ds → IfSome (slice_get ds o) (λ d. found ≡ d.name) → number_in o (drop o ds) name ≡ cond (bytes_eq found name) (Some o) (number_in (o + 1) (drop (o + 1) ds) name)
number_in-at ds o found name h is =
    let at = object_at ds o h in
    let named : found ≡ at.0.name = subst (λ r. IfSome r (λ (d : Declaration). found ≡ d.name)) at.1 is in
    let next : suc o ≡ o + 1 = omega arith in
    ap (λ l. number_in o l name) at.2 ∙ ap (λ n. cond (bytes_eq n name) (Some o) (number_in (suc o) (drop (suc o) ds) name)) (sym named)
    ∙ ap (λ n. cond (bytes_eq found name) (Some o) (number_in n (drop n ds) name)) next

-- it has
pub number_in-here : (ds : List Declaration) (o : ℕ) (found name : List ℕ) → o < length ds → IfSome (slice_get ds o) (λ d. found ≡ d.name) → bytes_eq found name ≡ true → number_in o (drop o ds) name ≡ Some o
number_in-here ds o found name h is same = number_in-at ds o found name h is ∙ cond-true (bytes_eq found name) _ _ same

-- it hasn't
pub number_in-later : (ds : List Declaration) (o : ℕ) (found name : List ℕ) → o < length ds → IfSome (slice_get ds o) (λ d. found ≡ d.name) → bytes_eq found name ≡ false → number_in o (drop o ds) name ≡ number_in (o + 1) (drop (o + 1) ds) name
number_in-later ds o found name h is other = number_in-at ds o found name h is ∙ cond-false (bytes_eq found name) _ _ other

-- the number that is found is that of an object
known-from : (o : ℕ) (ds : List Declaration) (name : List ℕ) → IfSome (number_in o ds name) (λ n. n < o + length ds)
known-from o [] name = tt
known-from o (d ∷ ds) name =
    let more : suc o + length ds ≡ o + suc (length ds) = omega arith in
    cond_both (bytes_eq d.name name) (Some o) (number_in (suc o) ds name) (λ r. IfSome r (λ n. n < o + suc (length ds)))
    (λ t. omega arith) (λ f. subst (λ m. IfSome (number_in (suc o) ds name) (λ n. n < m)) more (known-from (suc o) ds name))

pub number_in-known : (ds : List Declaration) (name : List ℕ) → IfSome (number_in 0 ds name) (λ n. n < length ds)
number_in-known ds name = subst (λ m. IfSome (number_in 0 ds name) (λ n. n < m)) (zero-add (length ds)) (known-from 0 ds name)
