-- The thread that an object stands for is one of the threads.
use Rattle.std.proofs.Common.{◌≡◌, ℕ, zero, suc, ◌+◌, ◌≤◌, ◌<◌, List, [], ◌∷◌, length, get_or, slice_get, filter_map, Option, Some, None, arith, refl, sym, ap, ◌∙◌, subst}
use Rattle.std.specs.List.{cons_option}
use Rattle.std.proofs.lemmas.List.FromFn.{length-range_with_len, get_or-range_with_len}
use Rattle.tm_text.specs.declared.exercises.Declaration.{Declaration}
use Rattle.tm_text.specs.Exercises.{ExerciseView, IsWellFormed, thread_of}

-- the number is one of these
abbrev IsAmong : List ℕ → ℕ → Type 0
IsAmong ts t = (k : ℕ) × (k < length ts) × (get_or ts k 0 ≡ t)

later : (o : Option ℕ) (ts : List ℕ) (t : ℕ) → IsAmong ts t → IsAmong (cons_option o ts) t
later None ts t at = at
later (Some u) ts t at = let within = at.1 in (suc at.0, omega arith, at.2)

among : (ds : List Declaration) (o t : ℕ) (d : Declaration) → slice_get ds o ≡ Some d → thread_of d ≡ Some t → IsAmong (filter_map thread_of ds) t
among [] o t d at own = absurd (cc)
among (c ∷ ds) zero t d at own =
    let same : c ≡ d = cc in
    subst (λ r. IsAmong (cons_option r (filter_map thread_of ds)) t) (sym (ap thread_of same ∙ own)) (0, omega arith, refl)
among (c ∷ ds) (suc o) t d at own = later (thread_of c) (filter_map thread_of ds) t (among ds o t d at own)

-- it has a program
pub thread_known : (x : ExerciseView) → IsWellFormed x → (o t : ℕ) (d : Declaration) → slice_get x.objects o ≡ Some d → thread_of d ≡ Some t → (1 ≤ t) × (t ≤ length x.programs)
thread_known x formed o t d at own =
    let n = length x.programs in
    let found = subst (λ ts. IsAmong ts t) formed.numbered (among x.objects o t d at own) in
    let many = length-range_with_len 1 n in
    let below : found.0 < n = let within = found.1 in omega arith in
    let is : 1 + found.0 ≡ t = sym (get_or-range_with_len 1 n found.0 0 below) ∙ found.2 in
    (omega arith, omega arith)
