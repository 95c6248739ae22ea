-- The numbers of threads' own objects.
use Rattle.std.proofs.Common.{◌≡◌, ℕ, zero, suc, ◌+◌, ◌<◌, false, cond, eqb, List, [], ◌∷◌, length, Some, refl, sym, ap, ◌∙◌, arith}
use Rattle.std.specs.Prelude.{filter_map, slice_get}
use Rattle.std.specs.List.{cons_option, range_with_len}
use Rattle.std.proofs.lemmas.Bool.{cond-true, cond-false}
use Rattle.std.proofs.lemmas.Bool.Decides.{Decides-eqb, nat_tests}
use Rattle.std.proofs.lemmas.List.FromFn.{length-range_with_len}
use Rattle.tm_base.specs.declared.kinds.Kind.{Kind}
use Rattle.tm_base.specs.declared.kinds.Kind.TheVariants as kind
use Rattle.tm_text.specs.declared.exercises.Declaration.{Declaration}
use Rattle.tm_text.specs.Exercises.{is_own, own_of, thread_of, thread_of_kind}
use Rattle.tm_text.specs.Objects.{owns_of, owns_of_kind}

-- in a list of numbered threads, the number of each own object stands at its thread's place
abbrev AreOwns : List Declaration → Type 0
AreOwns ds = (o t n i : ℕ) → filter_map thread_of ds ≡ range_with_len t n → i < n → slice_get (owns_of o ds) i ≡ Some (o + own_of ds (t + i))

owns_of-more : (k : Kind) (ds : List Declaration) (o t n i : ℕ) → AreOwns ds → cons_option (thread_of_kind k) (filter_map thread_of ds) ≡ range_with_len t n → i < n → slice_get (owns_of_kind o k (owns_of (o + 1) ds)) i ≡ Some (o + cond (is_own (t + i) k) 0 (own_of ds (t + i) + 1))
owns_of-more (kind.Thread own held) ds o t zero i ih e h = absurd (omega arith)
owns_of-more (kind.Thread own held) ds o t (suc n) zero ih e h =
    let first : own ≡ t = cc in
    let here : own ≡ t + 0 = omega arith in
    let none : o ≡ o + 0 = omega arith in
    ap (λ m. Some m) (none ∙ ap (λ m. o + m) (sym (cond-true (eqb own (t + 0)) 0 (own_of ds (t + 0) + 1) ((Decides-eqb own (t + 0)).1 here))))
owns_of-more (kind.Thread own held) ds o t (suc n) (suc i) ih e h =
    let first : own ≡ t = cc in
    let rest : filter_map thread_of ds ≡ range_with_len (t + 1) n = cc in
    let other : eqb own (t + suc i) ≡ false = grind (arith, nat_tests) in
    let next : t + 1 + i ≡ t + suc i = omega arith in
    let below : i < n = omega arith in
    let moved : o + 1 + own_of ds (t + suc i) ≡ o + (own_of ds (t + suc i) + 1) = omega arith in
    ih (o + 1) (t + 1) n i rest below
    ∙ ap (λ m. Some (o + 1 + own_of ds m)) next
    ∙ ap (λ m. Some m) moved
    ∙ ap (λ m. Some (o + m)) (sym (cond-false (eqb own (t + suc i)) 0 (own_of ds (t + suc i) + 1) other))
owns_of-more _ ds o t n i ih e h =
    let moved : o + 1 + own_of ds (t + i) ≡ o + (own_of ds (t + i) + 1) = omega arith in
    ih (o + 1) t n i e h ∙ ap (λ m. Some m) moved

owns_of-at : (ds : List Declaration) → AreOwns ds
owns_of-at [] o t zero i e h = absurd (omega arith)
owns_of-at [] o t (suc n) i e h = (cc)
owns_of-at (d ∷ ds) o t n i e h = owns_of-more d.kind ds o t n i (owns_of-at ds) e h

length-owns_of_kind : (k : Kind) (ds : List Declaration) (o : ℕ) (os : List ℕ) → length os ≡ length (filter_map thread_of ds) → length (owns_of_kind o k os) ≡ length (cons_option (thread_of_kind k) (filter_map thread_of ds))
length-owns_of_kind (kind.Thread own held) ds o os e = ap suc e
length-owns_of_kind _ ds o os e = e

length-owns_of : (ds : List Declaration) (o : ℕ) → length (owns_of o ds) ≡ length (filter_map thread_of ds)
length-owns_of [] o = refl
length-owns_of (d ∷ ds) o = length-owns_of_kind d.kind ds o (owns_of (o + 1) ds) (length-owns_of ds (o + 1))

-- the own objects' numbers of numbered threads
pub owns_are : (ds : List Declaration) (os : List ℕ) (n : ℕ) → os ≡ owns_of 0 ds → filter_map thread_of ds ≡ range_with_len 1 n → (t : ℕ) → t < n → slice_get os t ≡ Some (own_of ds (suc t))
owns_are ds os n is numbered t below =
    let next : 1 + t ≡ suc t = omega arith in
    let same : 0 + own_of ds (suc t) ≡ own_of ds (suc t) = omega arith in
    ap (λ l. slice_get l t) is ∙ owns_of-at ds 0 1 n t numbered below ∙ ap (λ u. Some (0 + own_of ds u)) next ∙ ap (λ m. Some m) same

pub owns_count : (ds : List Declaration) (os : List ℕ) (n : ℕ) → os ≡ owns_of 0 ds → filter_map thread_of ds ≡ range_with_len 1 n → length os ≡ n
owns_count ds os n is numbered = ap length is ∙ length-owns_of ds 0 ∙ ap length numbered ∙ length-range_with_len 1 n
