-- Bytes that end with an LF, where there are any.
use Rattle.std.proofs.Common.{◌≡◌, ℕ, ◌<◌, Bool, true, false, cond, ◌==◌, List, [], ◌∷◌, ◌++◌, flat_map, length, refl, sym, ap, ◌∙◌, subst, arith}
use Rattle.std.proofs.lemmas.Bool.{cond_both}
use Rattle.std.proofs.lemmas.Bool.Decides.{Decides-eqb}
use Rattle.tm_lines.specs.Lines.{lines_of, put_first}
use Rattle.tm_text.specs.CanonicalTexts.{canonical_text, line_text, values_text}
use Rattle.tm_text.specs.Exercises.{ExerciseView}
use Rattle.tm_text.specs.SpelledLines.{SpelledLine, spelled}
use Rattle.tm_lines.specs.FirstWords.{spelling}
use Rattle.tm_trace_texts.specs.TraceTexts.{joined}

abbrev pub IsClosed : List ℕ → Type 0
IsClosed [] = Unit {0}
IsClosed (b ∷ []) = b ≡ 10
IsClosed (b ∷ c ∷ bs) = IsClosed (c ∷ bs)

some-put : (b : ℕ) (ls : List (List ℕ)) → 0 < length (put_first b ls)
some-put b [] = omega arith
some-put b (l ∷ ls) = omega arith

some-line : (b : ℕ) (bs : List ℕ) → 0 < length (lines_of (b ∷ bs))
some-line b bs = cond_both (b == 10) ([] ∷ lines_of bs) (put_first b (lines_of bs)) (λ ls. 0 < length ls) (λ e. omega arith) (λ e. some-put b (lines_of bs))

-- the lines of such bytes and of others behind them
more-lines : (t : Bool) (b : ℕ) (us vs : List (List ℕ)) → 0 < length us → cond t ([] ∷ (us ++ vs)) (put_first b (us ++ vs)) ≡ cond t ([] ∷ us) (put_first b us) ++ vs
more-lines true b us vs h = refl
more-lines false b [] vs h = absurd (omega arith)
more-lines false b (u ∷ us) vs h = refl

pub closed-lines : (t bs : List ℕ) → IsClosed t → lines_of (t ++ bs) ≡ lines_of t ++ lines_of bs
closed-lines [] bs h = refl
closed-lines (b ∷ []) bs h = subst (λ a. lines_of (a ∷ bs) ≡ lines_of (a ∷ []) ++ lines_of bs) (sym h) refl
closed-lines (b ∷ c ∷ t) bs h =
    ap (λ ls. cond (b == 10) ([] ∷ ls) (put_first b ls)) (closed-lines (c ∷ t) bs h) ∙ more-lines (b == 10) b (lines_of (c ∷ t)) (lines_of bs) (some-line c t)

-- such bytes are their lines, each with its LF
joined-put : (b : ℕ) (ls : List (List ℕ)) → 0 < length ls → joined (put_first b ls) ≡ b ∷ joined ls
joined-put b [] h = absurd (omega arith)
joined-put b (l ∷ ls) h = refl

pub closed-joined : (t : List ℕ) → IsClosed t → joined (lines_of t) ≡ t
closed-joined [] h = refl
closed-joined (b ∷ []) h = subst (λ a. joined (lines_of (a ∷ [])) ≡ a ∷ []) (sym h) refl
closed-joined (b ∷ c ∷ t) h =
    let later = closed-joined (c ∷ t) h in
    cond_both (b == 10) ([] ∷ lines_of (c ∷ t)) (put_first b (lines_of (c ∷ t))) (λ ls. joined ls ≡ b ∷ c ∷ t)
    (λ e. ap (λ l. 10 ∷ l) later ∙ ap (λ a. a ∷ c ∷ t) (sym ((Decides-eqb b 10).0 e))) (λ e. joined-put b (lines_of (c ∷ t)) (some-line c t) ∙ ap (λ l. b ∷ l) later)

-- a canonical text is closed
closed-both : (s t : List ℕ) → IsClosed s → IsClosed t → IsClosed (s ++ t)
closed-both [] t h g = g
closed-both (b ∷ []) [] h g = h
closed-both (b ∷ []) (c ∷ t) h g = g
closed-both (b ∷ c ∷ s) t h g = closed-both (c ∷ s) t h g

closed-lf : (u : List ℕ) → IsClosed (u ++ 10 ∷ [])
closed-lf [] = refl
closed-lf (b ∷ []) = refl
closed-lf (b ∷ c ∷ u) = closed-lf (c ∷ u)

closed-all : (lines : List SpelledLine) → IsClosed (flat_map line_text lines)
closed-all [] = tt
closed-all (l ∷ lines) = closed-both (line_text l) (flat_map line_text lines) (closed-lf (spelling l.first ++ values_text l.values)) (closed-all lines)

pub closed-text : (x : ExerciseView) → IsClosed (canonical_text x)
closed-text x = closed-all (spelled x)
