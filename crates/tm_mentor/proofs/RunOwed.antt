-- What `run` owes for each of its answers.
use Rattle.std.proofs.Common.{ℕ, List, [], ◌∷◌, Some, lit<, refl, String, ◌≡◌, ◌∙◌, sym, subst, inl, inr}
use Rattle.std.specs.List.{Contains}
use Rattle.std.specs.Option.{IsSomeAnd}
use Rattle.std.specs.declared.alloc.Global.{Global}
use Rattle.tm_base.specs.declared.rules.Rules.{Rules}
use Rattle.tm_outside.specs.Faults.{Rose}
use Rattle.tm_lines.specs.declared.faults.FaultyLine.{FaultyLine}
use Rattle.tm_lines.specs.declared.limits.TheConstants.{MOST_BYTES}
use Rattle.tm_lines.specs.TextFaults.{first_fault}
use Rattle.tm_text.specs.Exercises.{ExerciseView}
use Rattle.tm_text.specs.Texts.{IsExercise}
use Rattle.tm_words.specs.declared.commands.Command.TheVariants.{Run}
use Rattle.tm_words.specs.Commands.{Spells}
use Rattle.tm_mentor.specs.declared.refusals.Refusal.{Refusal}
use Rattle.tm_mentor.specs.declared.refusals.Refusal.TheVariants.{Text}
use Rattle.tm_mentor.specs.declared.answers.Answer.{Answer}
use Rattle.tm_mentor.specs.declared.answers.Answer.TheVariants.{Ran, NoMemory}
use Rattle.tm_mentor.specs.Answers.{outcome_of}
use Rattle.tm_mentor.specs.Outside.{Exchange, Input}
use Rattle.tm_mentor.specs.Refusals.{status_of}
use Rattle.tm_mentor.specs.RunCommand.{HasNoExercise, IsNoExercise, RunAnswers}
use Rattle.tm_mentor.proofs.Owed.{IsTold, Owes, both_told, if_told, ran_owes, refuses_never, refuses_none, refuses_owes, short_owes}
use Rattle.tm_mentor.proofs.Sent.{run_written, steady_sends}

-- a text with a fault is that of no exercise
faulty_none : (fault : FaultyLine) (bytes : List ℕ) → first_fault bytes ≡ Some fault → IsNoExercise bytes
faulty_none fault bytes first = λ x text. let e = sym text.faultless ∙ first in cc

told_status : (old new : Input) (refusal : Refusal) → HasNoExercise refusal old new → status_of refusal ≡ 3
told_status old new (Text fault) w = refl
told_status old new refusal w = absurd w

told_none : (words : List (String Global)) (rules : Rules) (o : Exchange) → Spells words (Run rules) → (refusal : Refusal) → HasNoExercise refusal o.source_before o.source_after → IsTold words o refusal
told_none words rules o spelled (Text fault) w = record {
  status = refl;
  steady = w.steady;
  none = inl ((rules, spelled), if_told _ IsNoExercise o.source_before.left (faulty_none fault) w.first);
}
told_none words rules o spelled refusal w = absurd w

pub run_owes : (words : List (String Global)) (rules : Rules) (o : Exchange) (a : Answer) → Spells words (Run rules) → RunAnswers rules o a → Owes words o (outcome_of a)
run_owes words rules o a spelled (inl w) = refuses_owes MOST_BYTES HasNoExercise o words a (told_none words rules o spelled) w
run_owes words rules o (Ran f) spelled (inr w) = ran_owes words o f w.bytes w.found.read.steady w.whole
run_owes words rules o NoMemory spelled (inr w) = short_owes words o w.found.read.steady
run_owes words rules o a spelled (inr w) = absurd w

-- where no exercise was told none runs, and where one was it does, if nothing fails
pub no_exercise : (rules : Rules) (o : Exchange) (a : Answer) → RunAnswers rules o a → IsSomeAnd o.source_before.left IsNoExercise → Contains (3 ∷ 4 ∷ 5 ∷ 9 ∷ []) (outcome_of a).status
no_exercise rules o a (inl w) none = refuses_none MOST_BYTES HasNoExercise o a (told_status o.source_before o.source_after) w
no_exercise rules o (Ran f) (inr w) none = absurd (both_told _ IsNoExercise o.source_before.left (λ bytes text no. no w.exercise text) w.found.read.told none)
no_exercise rules o NoMemory (inr w) none = (3, lit< tt, refl)
no_exercise rules o a (inr w) none = absurd w

told_never : (o : Exchange) (x : ExerciseView) → IsSomeAnd o.source_before.left (λ bytes. IsExercise bytes x) → (refusal : Refusal) → HasNoExercise refusal o.source_before o.source_after → ⊥
told_never o x told (Text fault) w = both_told _ _ o.source_before.left (λ bytes first text. faulty_none fault bytes first x text) w.first told
told_never o x told refusal w = w

pub complete_run : (rules : Rules) (o : Exchange) (x : ExerciseView) (a : Answer) → RunAnswers rules o a → IsSomeAnd o.source_before.left (λ bytes. IsExercise bytes x) → ¬ Rose o.source_before.faults o.source_after.faults → ¬ Rose o.sink_before.faults o.sink_after.faults → Contains (0 ∷ 6 ∷ 7 ∷ 9 ∷ []) (outcome_of a).status
complete_run rules o x a (inl w) told no_read no_write =
    subst (λ (b : Answer). Contains (0 ∷ 6 ∷ 7 ∷ 9 ∷ []) (outcome_of b).status)
    (sym (refuses_never MOST_BYTES HasNoExercise o a (told_never o x told) no_read w)) (3, lit< tt, refl)
complete_run rules o x (Ran f) (inr w) told no_read no_write = run_written f.write_fault f.end (steady_sends o.sink_before o.sink_after w.bytes f.write_fault w.whole no_write)
complete_run rules o x NoMemory (inr w) told no_read no_write = (3, lit< tt, refl)
complete_run rules o x a (inr w) told no_read no_write = absurd w
