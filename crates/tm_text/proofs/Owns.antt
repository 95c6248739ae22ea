-- The own object of a thread.
use Rattle.std.proofs.Common.{◌≡◌, ℕ, zero, suc, ◌≤◌, ◌<◌, ◌-◌, ◌==◌, Bool, true, false, List, [], ◌∷◌, length, get_or, slice_get, filter_map, Option, Some, None, arith, refl, sym, ap, ◌∙◌, add-one}
use Rattle.std.specs.List.{range_with_len, cons_option}
use Rattle.std.proofs.lemmas.Option.{slice_get_within}
use Rattle.std.proofs.lemmas.List.FromFn.{length-range_with_len, get_or-range_with_len}
use Rattle.std.proofs.lemmas.Bool.Decides.{nat_tests}
use Rattle.tm_base.specs.declared.kinds.Kind.{Kind}
use Rattle.tm_base.specs.declared.kinds.Kind.TheVariants as kind
use Rattle.tm_text.specs.declared.exercises.Declaration.{Declaration}
use Rattle.tm_text.specs.Exercises.{ExerciseView, IsWellFormed, is_own, own_of, thread_of_kind, thread_of}

-- the number is the thread's
abbrev is_number : ℕ → Option ℕ → Bool
is_number t None = false
is_number t (Some own) = own == t

-- a kind is that of the thread's own object exactly where it stands for the thread
is_own-is : (t : ℕ) (k : Kind) → is_own t k ≡ is_number t (thread_of_kind k)
is_own-is t (kind.Thread own held) = refl
is_own-is t kind.Mutex = refl
is_own-is t (kind.Sem value) = refl
is_own-is t (kind.Hoare conditions) = refl
is_own-is t (kind.Mesa conditions) = refl
is_own-is t (kind.Barrier parties) = refl
is_own-is t kind.Rw = refl
is_own-is t kind.Sync = refl
is_own-is t (kind.Async capacity) = refl
is_own-is t (kind.Var value) = refl

-- the thread's own object is among these
abbrev Owned : List Declaration → ℕ → Type 0
Owned ds t = (d : Declaration) × (slice_get ds (own_of ds t) ≡ Some d) × (thread_of d ≡ Some t)

-- the object in front is the thread's own
own_first : (d : Declaration) (ds : List Declaration) (t : ℕ) → is_own t d.kind ≡ true → thread_of d ≡ Some t → Owned (d ∷ ds) t
own_first d ds t own names = (d, rw own refl, names)

-- the thread's own object stands after the one in front
own_later : (d : Declaration) (ds : List Declaration) (t : ℕ) → is_own t d.kind ≡ false → Owned ds t → Owned (d ∷ ds) t
own_later d ds t other found = (found.0, rw (other, add-one) found.1, found.2)

-- the test of the object in front, with what it stands for
by_first : (d : Declaration) (ds : List Declaration) (t k : ℕ) (o : Option ℕ) (b : Bool)
    → thread_of d ≡ o → is_own t d.kind ≡ b → is_number t o ≡ b
    → ((j : ℕ) → j < length (filter_map thread_of ds) → get_or (filter_map thread_of ds) j 0 ≡ t → Owned ds t)
    → k < length (cons_option o (filter_map thread_of ds)) → get_or (cons_option o (filter_map thread_of ds)) k 0 ≡ t
    → Owned (d ∷ ds) t
by_first d ds t k None true names own number later within at = absurd cc
by_first d ds t k None false names own number later within at = own_later d ds t own (later k within at)
by_first d ds t k (Some o) true names own number later within at =
    let same : o ≡ t = grind (arith, nat_tests) in own_first d ds t own (names ∙ ap Some same)
by_first d ds t zero (Some o) false names own number later within at =
    let differ : o ≡ t → ⊥ = λ e. grind (arith, nat_tests) in absurd (differ at)
by_first d ds t (suc k) (Some o) false names own number later within at =
    let inside : k < length (filter_map thread_of ds) = omega arith in own_later d ds t own (later k inside at)

-- a thread that one of the objects stands for has an own object among them
owned_among : (ds : List Declaration) (t k : ℕ) → k < length (filter_map thread_of ds) → get_or (filter_map thread_of ds) k 0 ≡ t → Owned ds t
owned_among [] t k within at = absurd (omega arith)
owned_among (d ∷ ds) t k within at =
    by_first d ds t k (thread_of d) (is_own t d.kind) refl refl (sym (is_own-is t d.kind)) (owned_among ds t) within at

-- the own object of a thread with a program stands for the thread
pub own_of-found : (x : ExerciseView) → IsWellFormed x → (t : ℕ) → 1 ≤ t → t ≤ length x.programs
    → (d : Declaration) × (slice_get x.objects (own_of x.objects t) ≡ Some d) × (thread_of d ≡ Some t)
own_of-found x h t program known =
    let within : t - 1 < length (range_with_len 1 (length x.programs)) = rw length-range_with_len (omega arith) in
    let below : t - 1 < length x.programs = omega arith in
    let at : get_or (range_with_len 1 (length x.programs)) (t - 1) 0 ≡ t = get_or-range_with_len 1 (length x.programs) (t - 1) 0 below ∙ omega arith in
    owned_among x.objects t (t - 1) (rw h.numbered within) (rw h.numbered at)

-- the own object of a thread with a program is one of the exercise's
pub own_of-below : (x : ExerciseView) → IsWellFormed x → (t : ℕ) → 1 ≤ t → t ≤ length x.programs → own_of x.objects t < length x.objects
own_of-below x h t program known =
    let found = own_of-found x h t program known in
    slice_get_within x.objects (own_of x.objects t) found.0 found.1
