-- What was read of a text is its exercise.
use Rattle.std.proofs.Common.{◌≡◌, ℕ, ◌≤◌, false, nat_lt, List, length, None, sym, ap, ◌∙◌, subst, arith}
use Rattle.std.proofs.lemmas.Bool.{cond-false}
use Rattle.std.proofs.lemmas.Bool.Decides.{nat_tests}
use Rattle.tm_programs.specs.declared.instructions.Instruction.{Instruction}
use Rattle.tm_lines.specs.declared.limits.TheConstants.{MOST_BYTES}
use Rattle.tm_lines.specs.TextFaults.{first_fault, said_words, text_lines}
use Rattle.tm_text.specs.declared.exercises.Declaration.{Declaration}
use Rattle.tm_text.specs.Exercises.{ExerciseView, IsWellFormed}
use Rattle.tm_text.specs.Objects.{DeclaredObjects}
use Rattle.tm_text.specs.Readings.{IsWhole}
use Rattle.tm_text.specs.Texts.{IsExercise, declarations_said}
use Rattle.tm_text.proofs.WellFormedTexts.{well_formed-said}

abbrev pub made_of : List Declaration → List (List Instruction) → ExerciseView
made_of ds ps = record { objects = ds; programs = ps }

-- what the parts of an exercise say of its text
pub record AreParts (bytes : List ℕ) (v : DeclaredObjects) (ds : List Declaration) (ps : List (List Instruction)) : Type 0 where
  pub short : length bytes ≤ MOST_BYTES
  pub objects : ds ≡ v.objects
  pub whole : IsWhole bytes v ps

pub faultless_parts : (bytes : List ℕ) (v : DeclaredObjects) (ds : List Declaration) (ps : List (List Instruction)) → AreParts bytes v ds ps → first_fault bytes ≡ None
faultless_parts bytes v ds ps h =
    let short = h.short in
    let no : nat_lt MOST_BYTES (length bytes) ≡ false = grind (arith, nat_tests) in
    cond-false (nat_lt MOST_BYTES (length bytes)) _ _ no ∙ h.whole.faultless

pub is_exercise : (bytes : List ℕ) (v : DeclaredObjects) (ds : List Declaration) (ps : List (List Instruction)) → AreParts bytes v ds ps → IsExercise bytes (made_of ds ps)
is_exercise bytes v ds ps h =
    let lines = said_words (text_lines bytes) in
    let w = well_formed-said bytes (faultless_parts bytes v ds ps h) in
    let all : v.objects ≡ declarations_said 1 lines = h.whole.objects (record { few = w.few_objects; named = λ o d at. (w.names o d at).0 }) in
    record {
      faultless = faultless_parts bytes v ds ps h;
      said = ap (λ l. made_of l ps) (h.objects ∙ all) ∙ ap (made_of (declarations_said 1 lines)) h.whole.programs;
    }

pub well_formed_parts : (bytes : List ℕ) (v : DeclaredObjects) (ds : List Declaration) (ps : List (List Instruction)) → AreParts bytes v ds ps → IsWellFormed (made_of ds ps)
well_formed_parts bytes v ds ps h = subst IsWellFormed (sym (is_exercise bytes v ds ps h).said) (well_formed-said bytes (faultless_parts bytes v ds ps h))
