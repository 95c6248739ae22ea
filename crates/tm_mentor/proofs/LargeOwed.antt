-- What `large` owes for each of its answers.
use Rattle.std.proofs.Common.{ℕ, List, [], ◌∷◌, lit<, refl, String}
use Rattle.std.specs.List.{Contains}
use Rattle.std.specs.declared.alloc.Global.{Global}
use Rattle.tm_outside.specs.Faults.{Rose}
use Rattle.tm_mentor.specs.declared.answers.Answer.{Answer}
use Rattle.tm_mentor.specs.declared.answers.Answer.TheVariants.{NoMemory, Ran}
use Rattle.tm_mentor.specs.Answers.{outcome_of}
use Rattle.tm_mentor.specs.LargeCommand.{LargeAnswers}
use Rattle.tm_mentor.specs.Outside.{Exchange, Output}
use Rattle.tm_mentor.proofs.Owed.{IsSteady, Owes, ran_owes, short_owes}
use Rattle.tm_mentor.proofs.Sent.{run_written, steady_sends}

pub large_owes : (words : List (String Global)) (number : ℕ) (o : Exchange) (a : Answer) → IsSteady o → LargeAnswers number o.sink_before o.sink_after a → Owes words o (outcome_of a)
large_owes words number o (Ran f) steady w = ran_owes words o f _ steady w.whole
large_owes words number o NoMemory steady w = short_owes words o steady
large_owes words number o a steady w = absurd w

-- where nothing fails the exercise runs
pub complete_large : (number : ℕ) (old new : Output) (a : Answer) → LargeAnswers number old new a → ¬ Rose old.faults new.faults → Contains (0 ∷ 6 ∷ 7 ∷ 9 ∷ []) (outcome_of a).status
complete_large number old new (Ran f) w no_write = run_written f.write_fault f.end (steady_sends old new _ f.write_fault w.whole no_write)
complete_large number old new NoMemory w no_write = (3, lit< tt, refl)
complete_large number old new a w no_write = absurd w
