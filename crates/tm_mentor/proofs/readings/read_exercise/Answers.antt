use Rattle.std.proofs.Common.{◌∙◌, ℕ, List, ap, sym, subst, rules}
use Rattle.tm_lines.specs.declared.limits.TheConstants.{MOST_BYTES}
use Rattle.tm_lines.specs.TextFaults.{first_fault}
use Rattle.tm_text.specs.Texts.{IsExercise}
use Rattle.tm_text.proofs.WellFormedTexts.{exercises_are_well_formed}
use Rattle.tm_mentor.proofs.Judged.{exercise_is_short, fault_spreads, holds_of_all, not_too_long, refuses-line}
use Rattle.tm_mentor.proofs.readings.read_exercise.Goals as goal

pub returns-in-Ok-clause-found : goal.returns-in-Ok-clause-found
returns-in-Ok-clause-found g c =
    let P : List ℕ → Type 0 = λ bytes. IsExercise bytes c.in-Ok.exercise in
    let text : IsExercise c.in_ok-bytes.bytes c.in-Ok.exercise = subst P c.as_slice.ensures c.in-Ok.ensures.read in
    record {
      read = record {
        end = c.in_ok-bytes.ensures.end (not_too_long c.in_ok-bytes.bytes text.faultless);
        steady = search rules;
        told = holds_of_all MOST_BYTES P _ (g.S.Source.left c.read_all.new.source) c.in_ok-bytes.bytes (exercise_is_short c.in-Ok.exercise) c.in_ok-bytes.ensures.first text;
      };
      formed = exercises_are_well_formed c.in_ok-bytes.bytes c.in-Ok.exercise text;
    }

pub returns-in-Err-Line-clause-found : goal.returns-in-Err-Line-clause-found
returns-in-Err-Line-clause-found g c =
    let first = refuses-line c.read.result (first_fault c.as_slice.result.now) _ _ c.read.ensures.refused cc in
    record {
      taken = search rules;
      steady = search rules;
      first = holds_of_all MOST_BYTES _ _ (g.S.Source.left c.read_all.new.source) c.in_ok-bytes.bytes (fault_spreads _) c.in_ok-bytes.ensures.first (ap first_fault (sym c.as_slice.ensures) ∙ first);
    }
