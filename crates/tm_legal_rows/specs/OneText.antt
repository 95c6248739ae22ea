-- A legal run has exactly one text, as whole statements.
use Rattle.std.specs.Prelude.{◌≡◌, ℕ, List}
use Rattle.tm_base.specs.declared.events.Entry.{Entry}
use Rattle.tm_text.specs.Exercises.{ExerciseView}
use Rattle.tm_legal_rows.specs.LegalTexts.{IsLegal, IsLegalText}

-- A legal run has a text.
abbrev pub LegalTextExists : Type 0
LegalTextExists = (x : ExerciseView) (es : List Entry) → IsLegal x es → (bytes : List ℕ) × IsLegalText x es bytes

-- Two texts of a run are the same bytes.
abbrev pub OneLegalText : Type 0
OneLegalText = (x : ExerciseView) (es : List Entry) (bytes text : List ℕ) → IsLegalText x es bytes → IsLegalText x es text → bytes ≡ text
