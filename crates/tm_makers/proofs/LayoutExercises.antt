-- The exercise of a sound layout is well formed.
use Rattle.std.proofs.Common.{◌≡◌, ◌≢◌, ◌+◌, ℕ, zero, suc, true, false, not, List, [], ◌∷◌, ◌++◌, length, map, codes, filter_map, slice_get, slice_index_or, Option, Some, arith, refl, sym, ap, ◌∙◌, subst}
use Rattle.std.specs.List.{cons_option, list_all, range_with_len}
use Rattle.std.proofs.lemmas.List.{append-nil, append_assoc, length-append, length_push}
use Rattle.tm_base.specs.Names.{IsName}
use Rattle.tm_base.specs.declared.kinds.Kind.{Kind}
use Rattle.tm_base.specs.declared.kinds.Kind.TheVariants as kind
use Rattle.tm_programs.specs.declared.instructions.Instruction.{Instruction}
use Rattle.tm_text.specs.declared.exercises.Declaration.{Declaration}
use Rattle.tm_text.specs.Exercises.{ExerciseView, IsKindRead, IsWellFormed, instructions_of, thread_of}
use Rattle.tm_makers.specs.Drafts.{Part, Object, Thread, no_parts, with_part, with_parts}
use Rattle.tm_makers.specs.LineForms.{numbered}
use Rattle.tm_makers.proofs.Layouts.{AllOf, Group, Layout, Many, One, SoundLayout, SoundPart, SoundProgram, are_apart, declarations, declared, is_among, is_named, letter_of, letters, parts_before, parts_in, parts_of, size_of, total}
use Rattle.tm_makers.proofs.LayoutParts.{BeginsAmong, Once, all-before, all-more, both-true, length-before, once-before, part_name, programs_in}

-- the exercise of parts
abbrev pub exercise_of : List Part → ExerciseView
exercise_of ps = record { objects = declarations 1 ps; programs = programs_in ps }

abbrev joined : ExerciseView → List Part → ExerciseView
joined x ps = record { objects = x.objects ++ declarations (length x.programs + 1) ps; programs = x.programs ++ programs_in ps }

abbrev view : List Declaration → List (List Instruction) → ExerciseView
view ds qs = record { objects = ds; programs = qs }

with_parts-joined : (x : ExerciseView) (ps : List Part) → with_parts x ps ≡ joined x ps
with_parts-joined x [] = ap (λ ds. view ds x.programs) (sym (append-nil x.objects)) ∙ ap (view (x.objects ++ [])) (sym (append-nil x.programs))
with_parts-joined x (Object name kind ∷ ps) =
    with_parts-joined (with_part x (Object name kind)) ps
    ∙ ap (λ ds. view ds (x.programs ++ programs_in ps)) (append_assoc x.objects (record { name = name; kind = kind } ∷ []) (declarations (length x.programs + 1) ps))
with_parts-joined x (Thread name program ∷ ps) =
    let own = length x.programs + 1 in
    let d : Declaration = record { name = name; kind = kind.Thread own false } in
    let pushed : length (x.programs ++ program ∷ []) ≡ length x.programs + 1 = length_push x.programs program in
    let next : length (x.programs ++ program ∷ []) + 1 ≡ suc own = omega arith in
    with_parts-joined (with_part x (Thread name program)) ps
    ∙ ap (λ ds. view ds ((x.programs ++ program ∷ []) ++ programs_in ps)) (append_assoc x.objects (d ∷ []) (declarations (length (x.programs ++ program ∷ []) + 1) ps))
    ∙ ap (λ t. view (x.objects ++ d ∷ declarations t ps) ((x.programs ++ program ∷ []) ++ programs_in ps)) next
    ∙ ap (view (x.objects ++ d ∷ declarations (suc own) ps)) (append_assoc x.programs (program ∷ []) (programs_in ps))

pub with_parts-is : (ps : List Part) → with_parts no_parts ps ≡ exercise_of ps
with_parts-is ps = with_parts-joined no_parts ps

-- ---- what holds of the declarations

length-declarations : (t : ℕ) (ps : List Part) → length (declarations t ps) ≡ length ps
length-declarations t [] = refl
length-declarations t (Object name kind ∷ ps) = ap suc (length-declarations t ps)
length-declarations t (Thread name program ∷ ps) = ap suc (length-declarations (suc t) ps)

all-at : {X : Type 0} (P : X → Type 0) (xs : List X) (o : ℕ) (x : X) → AllOf P xs → slice_get xs o ≡ Some x → P x
all-at P [] o x h at = absurd cc
all-at P (y ∷ xs) zero x h at = let same : y ≡ x = cc in subst P same h.0
all-at P (y ∷ xs) (suc o) x h at = all-at P xs o x h.1 at

all-names : (P : List ℕ → Type 0) (t : ℕ) (ps : List Part) → AllOf (λ p. P (part_name p)) ps → AllOf (λ (d : Declaration). P d.name) (declarations t ps)
all-names P t [] h = tt
all-names P t (Object name kind ∷ ps) h = (h.0, all-names P t ps h.1)
all-names P t (Thread name program ∷ ps) h = (h.0, all-names P (suc t) ps h.1)

all-kinds : (ds : List Declaration) (t : ℕ) (ps : List Part) → AllOf (SoundPart ds) ps → AllOf (λ (d : Declaration). IsKindRead d.kind) (declarations t ps)
all-kinds ds t [] h = tt
all-kinds ds t (Object name kind ∷ ps) h = (h.0.0, all-kinds ds t ps h.1)
all-kinds ds t (Thread name program ∷ ps) h = (tt, all-kinds ds (suc t) ps h.1)

-- no two objects have one name
abbrev OnceDeclared : List Declaration → Type 0
OnceDeclared [] = Unit {0}
OnceDeclared (d ∷ ds) = AllOf (λ (c : Declaration). d.name ≢ c.name) ds × OnceDeclared ds

once-declared : (t : ℕ) (ps : List Part) → Once ps → OnceDeclared (declarations t ps)
once-declared t [] h = tt
once-declared t (Object name kind ∷ ps) h = (all-names (λ n. name ≢ n) t ps h.0, once-declared t ps h.1)
once-declared t (Thread name program ∷ ps) h = (all-names (λ n. name ≢ n) (suc t) ps h.0, once-declared (suc t) ps h.1)

once-at : (ds : List Declaration) (o p : ℕ) (c d : Declaration) → OnceDeclared ds → slice_get ds o ≡ Some c → slice_get ds p ≡ Some d → c.name ≡ d.name → o ≡ p
once-at [] o p c d h at at' same = absurd cc
once-at (e ∷ ds) zero zero c d h at at' same = refl
once-at (e ∷ ds) zero (suc p) c d h at at' same =
    let first : e.name ≡ c.name = cc in
    absurd (all-at (λ (b : Declaration). e.name ≢ b.name) ds p d h.0 at' (first ∙ same))
once-at (e ∷ ds) (suc o) zero c d h at at' same =
    let first : e.name ≡ d.name = cc in
    absurd (all-at (λ (b : Declaration). e.name ≢ b.name) ds o c h.0 at (first ∙ sym same))
once-at (e ∷ ds) (suc o) (suc p) c d h at at' same = ap suc (once-at ds o p c d h.1 at at' same)

-- threads are numbered in order
numbered-threads : (ds : List Declaration) (t : ℕ) (ps : List Part) → AllOf (SoundPart ds) ps → filter_map thread_of (declarations t ps) ≡ range_with_len t (length (programs_in ps))
numbered-threads ds t [] h = refl
numbered-threads ds t (Object name kind ∷ ps) h =
    ap (λ (o : Option ℕ). cons_option o (filter_map thread_of (declarations t ps))) h.0.1 ∙ numbered-threads ds t ps h.1
numbered-threads ds t (Thread name program ∷ ps) h =
    let next : suc t ≡ t + 1 = omega arith in
    ap (λ ts. t ∷ ts) (numbered-threads ds (suc t) ps h.1 ∙ ap (λ u. range_with_len u (length (programs_in ps))) next)

-- ---- what holds of the programs

all-programs : (ds : List Declaration) (ps : List Part) → AllOf (SoundPart ds) ps → AllOf (SoundProgram ds) (programs_in ps)
all-programs ds [] h = tt
all-programs ds (Object name kind ∷ ps) h = all-programs ds ps h.1
all-programs ds (Thread name program ∷ ps) h = (h.0, all-programs ds ps h.1)

no_program : (ds : List Declaration) → SoundProgram ds []
no_program ds = record { nested = refl; short = omega arith; fits = refl }

program-at : (ds : List Declaration) (qs : List (List Instruction)) (n : ℕ) → AllOf (SoundProgram ds) qs → SoundProgram ds (slice_index_or qs n [])
program-at ds [] n h = no_program ds
program-at ds (q ∷ qs) zero h = h.0
program-at ds (q ∷ qs) (suc n) h = program-at ds qs n h.1

program-of : (ds : List Declaration) (ps : List Part) (t : ℕ) → AllOf (SoundPart ds) ps → SoundProgram ds (instructions_of (exercise_of ps) t)
program-of ds ps zero h = no_program ds
program-of ds ps (suc t) h = program-at ds (programs_in ps) t (all-programs ds ps h)

-- ---- how many threads there are

programs-append : (ps qs : List Part) → programs_in (ps ++ qs) ≡ programs_in ps ++ programs_in qs
programs-append [] qs = refl
programs-append (Object name kind ∷ ps) qs = programs-append ps qs
programs-append (Thread name program ∷ ps) qs = ap (λ rest. program ∷ rest) (programs-append ps qs)

no_programs : (word : List ℕ) (k : ℕ → Kind) (a n : ℕ) → programs_in (map (λ i. Object (numbered word i) (k i)) (range_with_len a n)) ≡ []
no_programs word k a zero = refl
no_programs word k a (suc n) = no_programs word k (a + 1) n

count-programs : (word : List ℕ) (p : ℕ → List Instruction) (a n : ℕ) → length (programs_in (map (λ i. Thread (numbered word i) (p i)) (range_with_len a n))) ≡ n
count-programs word p a zero = refl
count-programs word p a (suc n) = ap suc (count-programs word p (a + 1) n)

objects-none : (g : Group Kind) → programs_in (parts_in Object g) ≡ []
objects-none (One name k) = refl
objects-none (Many word from count k) = no_programs word k from count

threads-count : (g : Group (List Instruction)) → length (programs_in (parts_in Thread g)) ≡ size_of g
threads-count (One name p) = refl
threads-count (Many word from count p) = count-programs word p from count

programs-objects : (gs : List (Group Kind)) (rest : List Part) → programs_in (parts_before Object gs rest) ≡ programs_in rest
programs-objects [] rest = refl
programs-objects (g ∷ gs) rest =
    programs-append (parts_in Object g) (parts_before Object gs rest)
    ∙ ap (λ qs. qs ++ programs_in (parts_before Object gs rest)) (objects-none g) ∙ programs-objects gs rest

programs-threads : (gs : List (Group (List Instruction))) → length (programs_in (parts_before Thread gs [])) ≡ total gs
programs-threads [] = refl
programs-threads (g ∷ gs) =
    let joined = ap length (programs-append (parts_in Thread g) (parts_before Thread gs [])) ∙ length-append (programs_in (parts_in Thread g)) (programs_in (parts_before Thread gs [])) in
    let here = threads-count g in
    let later = programs-threads gs in
    omega arith

-- ---- the parts of a sound layout

pub sound_parts : (l : Layout) → SoundLayout l → AllOf (SoundPart (declared l)) (parts_of l)
sound_parts l sound =
    all-before (SoundPart (declared l)) Object l.objects (parts_before Thread l.threads []) sound.kinds
    (all-before (SoundPart (declared l)) Thread l.threads [] sound.programs tt)

-- letters behind others that are apart are apart
apart-later : (gs : List (Group Kind)) (ls : List ℕ) → are_apart (letters gs ls) ≡ true → are_apart ls ≡ true
apart-later [] ls h = h
apart-later (g ∷ gs) ls h = apart-later gs ls (both-true (not (is_among (letter_of g) (letters gs ls))) (are_apart (letters gs ls)) h).1

record Named (ps : List Part) : Type 0 where
  once : Once ps
  names : AllOf (λ p. IsName (part_name p) × (part_name p ≢ codes "main")) ps

named-parts : (l : Layout) → SoundLayout l → Named (parts_of l)
named-parts l sound =
    let named = both-true (list_all is_named l.objects) (list_all is_named l.threads) sound.named in
    let ls = letters l.threads [] in
    let apart-threads = apart-later l.objects ls sound.apart in
    let threads = once-before Thread (λ name c. refl) l.threads [] [] named.1 sound.small_threads apart-threads tt tt in
    let all = once-before Object (λ name c. refl) l.objects (parts_before Thread l.threads []) ls named.0 sound.small_objects sound.apart threads.0 threads.1 in
    record {
      once = all.0;
      names = all-more (BeginsAmong (letters l.objects ls)) (λ p. IsName (part_name p) × (part_name p ≢ codes "main")) (parts_of l) (λ p good. (good.1.named, good.1.free)) all.1;
    }

pub well_formed : (l : Layout) → SoundLayout l → IsWellFormed (exercise_of (parts_of l))
well_formed l sound =
    let ps = parts_of l in
    let named = named-parts l sound in
    let parts = sound_parts l sound in
    let ds = declared l in
    let count = length-declarations 1 ps in
    let all = length-before Object l.objects (parts_before Thread l.threads []) in
    let threads = length-before Thread l.threads [] in
    let programs = ap length (programs-objects l.objects (parts_before Thread l.threads [])) ∙ programs-threads l.threads in
    record {
      few_objects = omega (arith, sound.few_objects);
      few_threads = omega (arith, sound.few_threads);
      short = λ t. (program-of ds ps t parts).short;
      names = λ o d at. all-at (λ (c : Declaration). IsName c.name × (c.name ≢ codes "main")) ds o d (all-names (λ n. IsName n × (n ≢ codes "main")) 1 ps named.names) at;
      once = λ o p c d at at' same. once-at ds o p c d (once-declared 1 ps named.once) at at' same;
      kinds = λ o d at. all-at (λ (c : Declaration). IsKindRead c.kind) ds o d (all-kinds ds 1 ps parts) at;
      numbered = numbered-threads ds 1 ps parts;
      nested = λ t. (program-of ds ps t parts).nested;
      instructions = λ t. (program-of ds ps t parts).fits;
    }
