-- What an exercise's objects and seats are made of.
use Rattle.std.proofs.Common.{◌≡◌, ℕ, zero, suc, ◌+◌, ◌<◌, ◌≤◌, List, [], ◌∷◌, ◌++◌, map, take, length, filter_map, Option, Some, None, slice_get, refl, ap, sym, ◌∙◌, arith}
use Rattle.std.specs.List.{cons_option, range_with_len}
use Rattle.tm_base.specs.declared.kinds.Kind.{Kind}
use Rattle.tm_base.specs.declared.kinds.Kind.TheVariants as kind
use Rattle.tm_book.specs.Made.{CanMake, CanBe}
use Rattle.tm_text.specs.declared.exercises.Declaration.{Declaration}
use Rattle.tm_text.specs.Exercises.{ExerciseView, IsWellFormed, IsKindRead, thread_of, thread_of_kind}

-- one more element
pub map-take_more : {A B : Type 0} (f : A → B) (xs : List A) (i : ℕ) (x : A) → slice_get xs i ≡ Some x → map f (take (i + 1) xs) ≡ map f (take i xs) ++ f x ∷ []
map-take_more f [] i x h = absurd cc
map-take_more f (y ∷ xs) zero x h = let e : y ≡ x = cc in ap (λ z. f z ∷ []) e
map-take_more f (y ∷ xs) (suc i) x h =
    let one : suc i + 1 ≡ suc (i + 1) = omega arith in
    ap (λ k. map f (take k (y ∷ xs))) one ∙ ap (λ l. f y ∷ l) (map-take_more f xs i x h)

-- a number of a range
range_known : (a n k t : ℕ) → slice_get (range_with_len a n) k ≡ Some t → (a ≤ t) × (t < a + n)
range_known a zero k t h = absurd cc
range_known a (suc n) zero t h = let e : a ≡ t = cc in (omega (arith, e), omega (arith, e))
range_known a (suc n) (suc k) t h = let r = range_known (a + 1) n k t h in (omega (arith, r.0), omega (arith, r.1))

-- a thread that an object stands for is among the numbers of threads
listed : (ds : List Declaration) (o : ℕ) (d : Declaration) (t : ℕ) → slice_get ds o ≡ Some d → thread_of d ≡ Some t → (k : ℕ) × (slice_get (filter_map thread_of ds) k ≡ Some t)
listed [] o d t h e = absurd cc
listed (c ∷ ds) zero d t h e =
    let same : c ≡ d = cc in (0, ap (λ n. slice_get (cons_option n (filter_map thread_of ds)) 0) (ap thread_of same ∙ e))
listed (c ∷ ds) (suc o) d t h e = go (thread_of c) refl (listed ds o d t h e)
  where
    go : (n : Option ℕ) → thread_of c ≡ n → (k : ℕ) × (slice_get (filter_map thread_of ds) k ≡ Some t) → (k : ℕ) × (slice_get (filter_map thread_of (c ∷ ds)) k ≡ Some t)
    go None is later = (later.0, ap (λ n. slice_get (cons_option n (filter_map thread_of ds)) later.0) is ∙ later.1)
    go (Some n) is later = (suc later.0, ap (λ m. slice_get (cons_option m (filter_map thread_of ds)) (suc later.0)) is ∙ later.1)

-- each object that was declared can be made
pub can_make : (x : ExerciseView) → IsWellFormed x → (o : ℕ) (d : Declaration) → slice_get x.objects o ≡ Some d → CanMake d.kind (length x.programs)
can_make x formed o d found = record { few = formed.few_threads; kind = go d.kind refl (formed.kinds o d found) }
  where
    go : (k : Kind) → d.kind ≡ k → IsKindRead k → CanBe k (length x.programs)
    go (kind.Sem value) e read = omega (arith, read)
    go (kind.Barrier parties) e read = read.0
    go (kind.Async capacity) e read = (read.0, read.1)
    go (kind.Thread own held) e read =
        let at = listed x.objects o d own found (ap thread_of_kind e) in
        let known = range_known 1 (length x.programs) at.0 own (ap (λ l. slice_get l at.0) (sym formed.numbered) ∙ at.1) in
        (known.0, omega (arith, known.1))
    go k e read = tt
