-- What books keep when an event is entered.
use Rattle.std.proofs.Common.{◌≡◌, ◌≢◌, ℕ, zero, suc, ◌==◌, ◌⊎◌, inl, inr, ⊎_elim, List, [], ◌∷◌, ◌++◌, map, length, Some, slice_get, slice_set, refl, ap, sym, ◌∙◌, subst, eq-eqb, ne_eqb}
use Rattle.tm_base.specs.declared.events.Entry.{Entry}
use Rattle.tm_base.specs.Orders.{of_object}
use Rattle.tm_book.specs.Books.{BookView}
use Rattle.tm_replay.proofs.SliceLemmas.{slice_get-set_cases, filter-snoc_in, filter-snoc_out}
use Rattle.tm_session.specs.Records.{HaveKept, AreFresh}

pub map-slice_set : {A B : Type 0} (f : A → B) (xs : List A) (i : ℕ) (v : A) → map f (slice_set xs i v) ≡ slice_set (map f xs) i (f v)
map-slice_set f [] i v = refl
map-slice_set f (x ∷ xs) zero v = refl
map-slice_set f (x ∷ xs) (suc i) v = ap (λ l. f x ∷ l) (map-slice_set f xs i v)

-- the book of the event's object has it at its end, and the others are as before
pub books-kept : (es : List Entry) (books : List BookView) (o : ℕ) (b c : BookView) (e : Entry) → HaveKept es books → slice_get books o ≡ Some b
    → e.object ≡ b.object → c.object ≡ b.object → c.entries ≡ b.entries ++ e ∷ [] → HaveKept (es ++ e ∷ []) (slice_set books o c)
books-kept es books o b c e kept found on same entries k d there =
    let here = kept o b found in
    let on_o : e.object ≡ o = on ∙ here.0 in
    ⊎_elim
    (λ (at : (k ≡ o) × (d ≡ c)).
    subst (λ (n : ℕ). (d.object ≡ n) × (d.entries ≡ of_object (es ++ e ∷ []) n)) (sym at.0)
    (subst (λ (f : BookView). (f.object ≡ o) × (f.entries ≡ of_object (es ++ e ∷ []) o)) (sym at.1) (
      same ∙ here.0,
      entries ∙ ap (λ l. l ++ e ∷ []) here.1 ∙ sym (filter-snoc_in (λ (f : Entry). f.object == o) es e (eq-eqb e.object o on_o)),
    )))
    (λ (other : (k ≢ o) × (slice_get books k ≡ Some d)).
    let old = kept k d other.1 in
    (old.0, old.1 ∙ sym (filter-snoc_out (λ (f : Entry). f.object == k) es e (ne_eqb e.object k (λ e'. other.0 (sym e' ∙ on_o))))))
    (slice_get-set_cases books o k c d there)

-- an element of a list and one more
pub at-more : {A : Type 0} (xs : List A) (x y : A) (k : ℕ) → slice_get (xs ++ x ∷ []) k ≡ Some y → (slice_get xs k ≡ Some y) ⊎ ((k ≡ length xs) × (y ≡ x))
at-more [] x y zero h = inr (refl, let e : x ≡ y = cc in sym e)
at-more [] x y (suc k) h = absurd cc
at-more (z ∷ xs) x y zero h = inl h
at-more (z ∷ xs) x y (suc k) h = ⊎_elim (λ old. inl old) (λ new. inr (ap suc new.0, new.1)) (at-more xs x y k h)

-- one more book without events
pub fresh-more : (books : List BookView) (b : BookView) → AreFresh books → b.object ≡ length books → b.entries ≡ [] → AreFresh (books ++ b ∷ [])
fresh-more books b fresh object entries k c there = ⊎_elim
    (λ (old : slice_get books k ≡ Some c). fresh k c old)
    (λ (new : (k ≡ length books) × (c ≡ b)). (ap (λ (d : BookView). d.object) new.1 ∙ object ∙ sym new.0, ap (λ (d : BookView). d.entries) new.1 ∙ entries))
    (at-more books b c k there)
