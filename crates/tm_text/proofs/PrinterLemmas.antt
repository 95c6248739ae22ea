-- The lines of an exercise, one object more, and the thread whose program stands behind a line.
use Rattle.std.proofs.Common.{◌≡◌, ℕ, zero, suc, ◌+◌, ◌≤◌, ◌<◌, Bool, true, List, [], ◌∷◌, ◌++◌, length, map, take, slice_get, flat_map, Some, IfSome, arith, refl, sym, ap, ◌∙◌, subst, add-one}
use Rattle.std.proofs.lemmas.Grind.{flat_map-append}
use Rattle.std.proofs.lemmas.List.{append-nil, take_all}
use Rattle.std.proofs.lemmas.List.Folds.{list_all-append, list_all-map}
use Rattle.std.proofs.lemmas.Bool.{and_from}
use Rattle.std.specs.List.{list_all}
use Rattle.tm_programs.specs.declared.instructions.Instruction.{Instruction}
use Rattle.tm_text.specs.declared.exercises.Declaration.{Declaration}
use Rattle.tm_base.specs.declared.kinds.Kind.{Kind}
use Rattle.tm_text.specs.CanonicalTexts.{are_long, is_long, line_text, lines_text}
use Rattle.tm_text.specs.Exercises.{ExerciseView, IsWellFormed, thread_of_kind}
use Rattle.tm_text.specs.SpelledLines.{SpelledLine, end_line, line_of_instruction, lines_of_object, lines_of_program, spelled}
use Rattle.tm_text.proofs.ThreadNumbers.{thread_known}

there : {X : Type 0} (xs : List X) (n : ℕ) → n < length xs → (x : X) × (slice_get xs n ≡ Some x)
there [] n h = absurd (omega arith)
there (x ∷ xs) zero h = (x, refl)
there (x ∷ xs) (suc n) h = there xs n (omega arith)

take-more : {X : Type 0} (xs : List X) (n : ℕ) (x : X) → slice_get xs n ≡ Some x → take (suc n) xs ≡ take n xs ++ x ∷ []
take-more [] n x e = absurd (cc)
take-more (y ∷ xs) zero x e = let same : y ≡ x = cc in ap (λ z. z ∷ []) same
take-more (y ∷ xs) (suc n) x e = ap (λ ys. y ∷ ys) (take-more xs n x e)

long_append : (ls ms : List SpelledLine) → are_long ls ≡ true → are_long ms ≡ true → are_long (ls ++ ms) ≡ true
long_append ls ms h g = list_all-append (λ line. list_all is_long line.values) ls ms ∙ and_from (are_long ls) (are_long ms) h g

-- the lines of the objects up to the next
module _ (x : ExerciseView) (n : ℕ) (h : n < length x.objects) where
  spelled_more : flat_map (lines_of_object x) (take (n + 1) x.objects) ≡ flat_map (lines_of_object x) (take n x.objects) ++ lines_of_object x (there x.objects n h).0
  spelled_more =
      let at = there x.objects n h in
      let spell = lines_of_object x in
      rw add-one (ap (flat_map spell) (take-more x.objects n at.0 at.1) ∙ flat_map-append spell (take n x.objects) (at.0 ∷ []) ∙ ap (λ ls. flat_map spell (take n x.objects) ++ ls) (append-nil (spell at.0)))

  pub printed_more : (out after : List ℕ) → out ≡ lines_text (flat_map (lines_of_object x) (take n x.objects)) → IfSome (slice_get x.objects n) (λ d. after ≡ out ++ lines_text (lines_of_object x d))
      → after ≡ lines_text (flat_map (lines_of_object x) (take (n + 1) x.objects))
  printed_more out after before more =
      let at = there x.objects n h in
      subst (λ r. IfSome r (λ d. after ≡ out ++ lines_text (lines_of_object x d))) at.1 more ∙ ap (λ bs. bs ++ lines_text (lines_of_object x at.0)) before
      ∙ sym (ap lines_text spelled_more ∙ flat_map-append line_text (flat_map (lines_of_object x) (take n x.objects)) (lines_of_object x at.0))

  pub long_more : are_long (flat_map (lines_of_object x) (take n x.objects)) ≡ true → IfSome (slice_get x.objects n) (λ d. are_long (lines_of_object x d) ≡ true) → are_long (flat_map (lines_of_object x) (take (n + 1) x.objects)) ≡ true
  long_more before more =
      let at = there x.objects n h in
      let now = subst (λ r. IfSome r (λ d. are_long (lines_of_object x d) ≡ true)) at.1 more in
      ap are_long spelled_more ∙ long_append (flat_map (lines_of_object x) (take n x.objects)) (lines_of_object x at.0) before now

-- all objects are printed
pub all_printed : (x : ExerciseView) (n : ℕ) → length x.objects ≤ n → flat_map (lines_of_object x) (take n x.objects) ≡ spelled x
all_printed x n h = ap (flat_map (lines_of_object x)) (take_all n x.objects h)

-- the numbers of a whole program are of 64 bits
pub long_program : (all : List Declaration) (items q : List Instruction) (n : ℕ) → items ≡ q → length items ≤ n → list_all (λ i. list_all is_long (line_of_instruction all i).values) (take n items) ≡ true → are_long (lines_of_program all q) ≡ true
long_program all items q n same most h =
    let long : Instruction → Bool = λ i. list_all is_long (line_of_instruction all i).values in
    let each : list_all long q ≡ true = ap (list_all long) (sym same ∙ sym (take_all n items most)) ∙ h in
    long_append (map (line_of_instruction all) q) (end_line ∷ []) (list_all-map (λ line. list_all is_long line.values) (line_of_instruction all) q ∙ each) refl

pub behind_known : (x : ExerciseView) → IsWellFormed x → (o own : ℕ) (k : Kind) → o < length x.objects → IfSome (slice_get x.objects o) (λ d. k ≡ d.kind) → thread_of_kind k ≡ Some own → (1 ≤ own) × (own ≤ length x.programs)
behind_known x formed o own k h is names =
    let at = there x.objects o h in
    let same : k ≡ at.0.kind = subst (λ r. IfSome r (λ d. k ≡ d.kind)) at.1 is in
    thread_known x formed o own at.0 at.1 (ap thread_of_kind (sym same) ∙ names)
