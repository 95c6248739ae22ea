-- What a maker owes of its draft, by its layout.
use Rattle.std.proofs.Common.{◌≡◌, List, sym, ap, ◌∙◌, subst, IfOk, Result, flat_map}
use Rattle.std.proofs.lemmas.Result.{IfOk-weaker}
use Rattle.tm_base.specs.declared.memory.NoMemory.{NoMemory}
use Rattle.tm_text.specs.Exercises.{ExerciseView, IsWellFormed}
use Rattle.tm_text.specs.SpelledLines.{SpelledLine, spelled}
use Rattle.tm_makers.specs.Drafts.{no_parts, with_parts}
use Rattle.tm_makers.proofs.Layouts.{Layout, SoundLayout, declared, parts_of}
use Rattle.tm_makers.proofs.LayoutExercises.{exercise_of, well_formed, with_parts-is}
use Rattle.tm_makers.proofs.LayoutLines.{lines_of_part, spelled-parts}

-- the draft has the parts of a sound layout, which are spelled by these lines
pub record IsMade (draft : ExerciseView) (lines : List SpelledLine) : Type 0 where
  pub well_formed : IsWellFormed draft
  pub spelled_by : spelled draft ≡ lines

pub made : (draft : ExerciseView) (lines : List SpelledLine) (l : Layout) → SoundLayout l → flat_map (lines_of_part (declared l)) (parts_of l) ≡ lines → draft ≡ with_parts no_parts (parts_of l)
    → IsMade draft lines
made draft lines l sound are drafted =
    let is : draft ≡ exercise_of (parts_of l) = drafted ∙ with_parts-is (parts_of l) in
    record {
      well_formed = subst IsWellFormed (sym is) (well_formed l sound);
      spelled_by = ap spelled is ∙ spelled-parts l lines sound are;
    }

-- what is finished is the draft
pub finished : (draft : ExerciseView) (lines : List SpelledLine) (r : Result ExerciseView NoMemory) → IsMade draft lines → IfOk r (λ x. x ≡ draft) → IfOk r (λ x. spelled x ≡ lines)
finished draft lines r is h = IfOk-weaker r (λ x. x ≡ draft) (λ x. spelled x ≡ lines) (λ x same. ap spelled same ∙ is.spelled_by) h
