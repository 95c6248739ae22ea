-- The tails of lines, as the next event of a line counts as shown.
use Rattle.std.proofs.Common.{◌≡◌, ◌≢◌, ℕ, suc, ◌^◌, ◌<◌, true, false, cond, ◌==◌, ◌&&◌, ⊎_elim, List, [], ◌∷◌, ◌++◌, Option, Some, None, slice_get, slice_set, refl, sym, ap, ◌∙◌, subst, arith}
use Rattle.std.specs.Option.{option_or}
use Rattle.std.proofs.lemmas.Bool.{cond-true, cond-false, eq-eqb, ne_eqb, and_from, and_left}
use Rattle.std.proofs.lemmas.Bool.Decides.{nat_tests}
use Rattle.tm_base.specs.declared.events.Entry.{Entry}
use Rattle.tm_merge.specs.declared.lines.Line.{Line}
use Rattle.tm_merge.specs.Lines.{ShowsNext}
use Rattle.tm_merge.specs.Numbering.{IsNumberedBy}
use Rattle.tm_merge.specs.StoredArrivals.{found, IsTail, AreTails}
use Rattle.tm_merge.proofs.ListLemmas.{slice_get-set_cases}
use Rattle.tm_merge.proofs.NumberingLemmas.{count_in, count_in-snoc, found-snoc, exact_owns, none_from, numbered-snoc}

module _ (line number : Entry → ℕ) (lines : List Line) (shown : List Entry) (tails : AreTails line number lines shown) (numbered : IsNumberedBy line number shown)
    (e : Entry) (l m : Line) (at : slice_get lines (line e) ≡ Some l) (next : number e ≡ suc l.shown) (limit : number e < 2 ^ 64) (shows : ShowsNext l (number e) e m) where
  -- the event has the next number of its line
  next_is : number e ≡ suc (count_in line number shown (line e))
  next_is = let count = (tails (line e) l at).count in omega (arith, next, count)

  or_none : (o : Option Entry) → option_or o None ≡ o
  or_none None = refl
  or_none (Some x) = refl

  tail : IsTail line number (shown ++ e ∷ []) (line e) m
  tail =
      let is = next_is in
      let here : (line e == line e && number e == number e) ≡ true = and_from (line e == line e) (number e == number e) (eq-eqb (line e) (line e) refl) (eq-eqb (number e) (number e) refl) in
      let more = count_in-snoc line number shown e (line e) in
      let one = cond-true {A = ℕ} (line e == line e) 1 0 (eq-eqb (line e) (line e) refl) in
      let now = shows.shown in
      let absent : found line number shown (line e) (number e) ≡ None = none_from (found line number shown (line e) (number e)) ((exact_owns line number shown numbered).0 (line e) (number e) ∙ grind (arith, nat_tests)) in
      let last : found line number (shown ++ e ∷ []) (line e) (number e) ≡ Some e =
      found-snoc line number shown e (line e) (number e)
      ∙ ap (λ o. option_or o (cond (line e == line e && number e == number e) (Some e) None)) absent
      ∙ cond-true (line e == line e && number e == number e) (Some e) None here in
      record {
        count = omega (arith, more, one, now, is);
        last = shows.last ∙ sym last ∙ ap (found line number (shown ++ e ∷ []) (line e)) (sym now);
        fits = omega (arith, now, limit);
      }

  pub tails-next : AreTails line number (slice_set lines (line e) m) (shown ++ e ∷ [])
  tails-next j x at_j = ⊎_elim
      (λ (here : (j ≡ line e) × (x ≡ m)). subst (λ y. IsTail line number (shown ++ e ∷ []) j y) (sym here.1) (subst (λ i. IsTail line number (shown ++ e ∷ []) i m) (sym here.0) tail))
      (λ (other : (j ≢ line e) × (slice_get lines j ≡ Some x)).
      let old = tails j x other.1 in
      let apart : (line e == j) ≡ false = ne_eqb (line e) j (λ same. other.0 (sym same)) in
      let more = count_in-snoc line number shown e j in
      let none = cond-false {A = ℕ} (line e == j) 1 0 apart in
      let count = old.count in
      let last : found line number (shown ++ e ∷ []) j x.shown ≡ found line number shown j x.shown =
      found-snoc line number shown e j x.shown
      ∙ ap (option_or (found line number shown j x.shown)) (cond-false (line e == j && number e == x.shown) (Some e) None (and_left (line e == j) (number e == x.shown) apart))
      ∙ or_none (found line number shown j x.shown) in
      record { count = omega (arith, more, none, count); last = old.last ∙ sym last; fits = old.fits })
      (slice_get-set_cases lines (line e) j m x at_j)

  pub numbered-next : IsNumberedBy line number (shown ++ e ∷ [])
  numbered-next = numbered-snoc line number shown e numbered next_is
