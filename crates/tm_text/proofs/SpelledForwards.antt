-- The lines that spell an exercise, where each thread's line takes the next program.
use Rattle.std.proofs.Common.{◌≡◌, ℕ, zero, suc, ◌+◌, List, [], ◌∷◌, ◌++◌, drop, length, filter_map, flat_map, slice_index_or, Some, None, arith, refl, sym, ap, ◌∙◌}
use Rattle.std.specs.List.{range_with_len, cons_option}
use Rattle.std.proofs.lemmas.List.FromFn.{length-range_with_len}
use Rattle.std.proofs.lemmas.List.Sums.{length-filter}
use Rattle.tm_base.specs.declared.kinds.Kind.{Kind}
use Rattle.tm_base.specs.declared.kinds.Kind.TheVariants as kind
use Rattle.tm_programs.specs.declared.instructions.Instruction.{Instruction}
use Rattle.tm_text.specs.declared.exercises.Declaration.{Declaration}
use Rattle.tm_text.specs.Exercises.{ExerciseView, IsWellFormed, instructions_of, is_counted, thread_of, thread_of_kind}
use Rattle.tm_text.specs.SpelledLines.{SpelledLine, line_of_kind, lines_of_object, lines_of_program, spelled}
use Rattle.tm_text.proofs.SaidPrograms.{AllGood, Good}

abbrev pub first_program : List (List Instruction) → List Instruction
first_program [] = []
first_program (q ∷ qs) = q

abbrev pub later_programs : List (List Instruction) → List (List Instruction)
later_programs [] = []
later_programs (q ∷ qs) = qs

-- the programs that are left behind an object of this kind
abbrev pub left_behind : Kind → List (List Instruction) → List (List Instruction)
left_behind (kind.Thread own held) qs = later_programs qs
left_behind k qs = qs

pub first_good : (all : List Declaration) (qs : List (List Instruction)) → AllGood all qs → Good all 0 [] (first_program qs)
first_good all [] h = record { short = omega arith; nested = refl; fine = refl }
first_good all (q ∷ qs) h = h.0

pub good_behind : (all : List Declaration) (k : Kind) (qs : List (List Instruction)) → AllGood all qs → AllGood all (left_behind k qs)
good_behind all (kind.Thread own held) [] h = h
good_behind all (kind.Thread own held) (q ∷ qs) h = h.1
good_behind all k qs h = h

good_from : (all : List Declaration) (qs : List (List Instruction)) → ((n : ℕ) → Good all 0 [] (slice_index_or qs n [])) → AllGood all qs
good_from all [] h = tt
good_from all (q ∷ qs) h = (h 0, good_from all qs (λ n. h (suc n)))

-- the programs of a well-formed exercise
pub all_good : (x : ExerciseView) → IsWellFormed x → AllGood x.objects x.programs
all_good x formed =
    good_from x.objects x.programs
    (λ n.
    let short = formed.short (suc n) in
    let count = length-filter is_counted (slice_index_or x.programs n []) in
    record { short = omega arith; nested = formed.nested (suc n); fine = formed.instructions (suc n) })

-- what follows the line of an object; of a thread's its program comes first
abbrev pub behind : List Declaration → Kind → List (List Instruction) → (List (List Instruction) → List SpelledLine) → List SpelledLine
behind all (kind.Thread own held) qs rest = lines_of_program all (first_program qs) ++ rest (later_programs qs)
behind all k qs rest = rest qs

-- the lines of these objects, of which the threads have these programs
abbrev pub spelled_from : List Declaration → List (List Instruction) → List Declaration → List SpelledLine
spelled_from all qs [] = []
spelled_from all qs (d ∷ ds) = line_of_kind d.name d.kind ∷ behind all d.kind qs (λ rest. spelled_from all rest ds)

first_program-drop : (qs : List (List Instruction)) (n : ℕ) → slice_index_or qs n [] ≡ first_program (drop n qs)
first_program-drop [] zero = refl
first_program-drop [] (suc n) = refl
first_program-drop (q ∷ qs) zero = refl
first_program-drop (q ∷ qs) (suc n) = first_program-drop qs n

later_programs-drop : (qs : List (List Instruction)) (n : ℕ) → drop (suc n) qs ≡ later_programs (drop n qs)
later_programs-drop [] zero = refl
later_programs-drop [] (suc n) = refl
later_programs-drop (q ∷ qs) zero = refl
later_programs-drop (q ∷ qs) (suc n) = later_programs-drop qs n

-- the threads are numbered from this one on
abbrev pub Numbered : ℕ → List Declaration → Type 0
Numbered t ds = filter_map thread_of ds ≡ range_with_len t (length (filter_map thread_of ds))

range-first : (t u : ℕ) (ts : List ℕ) → u ∷ ts ≡ range_with_len t (length (u ∷ ts)) → (u ≡ t) × (ts ≡ range_with_len (suc t) (length ts))
range-first t u ts h =
    let one : suc t ≡ t + 1 = omega arith in
    let tail : ts ≡ range_with_len (t + 1) (length ts) = cc in
    let first : u ≡ t = cc in
    (first, tail ∙ ap (λ v. range_with_len v (length ts)) (sym one))

-- the objects behind one that is no thread, and behind a thread
pub numbered_other : (t : ℕ) (d : Declaration) (ds : List Declaration) → thread_of d ≡ None → Numbered t (d ∷ ds) → Numbered t ds
numbered_other t d ds other h =
    let all : filter_map thread_of (d ∷ ds) ≡ filter_map thread_of ds = ap (λ r. cons_option r (filter_map thread_of ds)) other in
    sym all ∙ h ∙ ap (λ ts. range_with_len t (length ts)) all

pub numbered_thread : (t own : ℕ) (d : Declaration) (ds : List Declaration) → thread_of d ≡ Some own → Numbered t (d ∷ ds) → (own ≡ t) × Numbered (suc t) ds
numbered_thread t own d ds is h =
    let all : filter_map thread_of (d ∷ ds) ≡ own ∷ filter_map thread_of ds = ap (λ r. cons_option r (filter_map thread_of ds)) is in
    range-first t own (filter_map thread_of ds) (sym all ∙ h ∙ ap (λ ts. range_with_len t (length ts)) all)

module _ (x : ExerciseView) where
  from_here : (n : ℕ) (d : Declaration) (ds : List Declaration) (k : Kind) → d.kind ≡ k → Numbered (suc n) (d ∷ ds)
      → ((m : ℕ) → Numbered (suc m) ds → flat_map (lines_of_object x) ds ≡ spelled_from x.objects (drop m x.programs) ds)
      → lines_of_object x d ++ flat_map (lines_of_object x) ds ≡ spelled_from x.objects (drop n x.programs) (d ∷ ds)
  from_here n d ds (kind.Thread own held) is numbered later =
      let next = numbered_thread (suc n) own d ds (ap thread_of_kind is) numbered in
      let all = x.objects in
      let program : instructions_of x own ≡ first_program (drop n x.programs) = ap (instructions_of x) next.0 ∙ first_program-drop x.programs n in
      let rest : flat_map (lines_of_object x) ds ≡ spelled_from all (later_programs (drop n x.programs)) ds =
      later (suc n) next.1 ∙ ap (λ qs. spelled_from all qs ds) (later_programs-drop x.programs n) in
      rw is (ap (λ q. line_of_kind d.name (kind.Thread own held) ∷ (lines_of_program all q ++ flat_map (lines_of_object x) ds)) program
      ∙ ap (λ ls. line_of_kind d.name (kind.Thread own held) ∷ (lines_of_program all (first_program (drop n x.programs)) ++ ls)) rest)
  from_here n d ds k is numbered later =
      rw is (ap (λ ls. line_of_kind d.name k ∷ ls) (later n (numbered_other (suc n) d ds (ap thread_of_kind is) numbered)))

  from : (n : ℕ) (ds : List Declaration) → Numbered (suc n) ds → flat_map (lines_of_object x) ds ≡ spelled_from x.objects (drop n x.programs) ds
  from n [] numbered = refl
  from n (d ∷ ds) numbered = from_here n d ds d.kind refl numbered (λ m h. from m ds h)

pub threads_count : (x : ExerciseView) → IsWellFormed x → length (filter_map thread_of x.objects) ≡ length x.programs
threads_count x formed = ap length formed.numbered ∙ length-range_with_len 1 (length x.programs)

pub numbered_from : (x : ExerciseView) → IsWellFormed x → Numbered 1 x.objects
numbered_from x formed = formed.numbered ∙ ap (range_with_len 1) (sym (threads_count x formed))

pub spelled-from : (x : ExerciseView) → IsWellFormed x → spelled x ≡ spelled_from x.objects x.programs x.objects
spelled-from x formed = from x 0 x.objects (numbered_from x formed)
