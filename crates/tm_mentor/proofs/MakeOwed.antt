-- What `make` owes for each of its answers.
use Rattle.std.proofs.Common.{List, [], ◌∷◌, lit<, refl, String, inl}
use Rattle.std.specs.List.{Contains}
use Rattle.std.specs.declared.alloc.Global.{Global}
use Rattle.tm_outside.specs.Faults.{Rose}
use Rattle.tm_makers.specs.declared.plans.Plan.{Plan}
use Rattle.tm_words.specs.declared.commands.Command.TheVariants.{Make}
use Rattle.tm_words.specs.Commands.{Spells}
use Rattle.tm_mentor.specs.declared.answers.Answer.{Answer}
use Rattle.tm_mentor.specs.declared.answers.Answer.TheVariants.{NoMemory, Wrote}
use Rattle.tm_mentor.specs.Answers.{outcome_of}
use Rattle.tm_mentor.specs.MakeCommand.{MakeAnswers, text_of_plan}
use Rattle.tm_mentor.specs.Outside.{Exchange, Output}
use Rattle.tm_mentor.proofs.Owed.{IsSteady, Owes, short_owes, wrote_owes}
use Rattle.tm_mentor.proofs.Sent.{steady_sends, wrote_written}

pub make_owes : (words : List (String Global)) (plan : Plan) (o : Exchange) (a : Answer) → Spells words (Make plan) → IsSteady o → MakeAnswers plan o.sink_before o.sink_after a → Owes words o (outcome_of a)
make_owes words plan o (Wrote failed) spelled steady w = wrote_owes words o failed (text_of_plan plan) steady w (inl (plan, spelled))
make_owes words plan o NoMemory spelled steady w = short_owes words o steady
make_owes words plan o a spelled steady w = absurd w

-- where nothing fails the plan's text is written
pub complete_make : (plan : Plan) (old new : Output) (a : Answer) → MakeAnswers plan old new a → ¬ Rose old.faults new.faults → Contains (0 ∷ 9 ∷ []) (outcome_of a).status
complete_make plan old new (Wrote failed) w no_write = wrote_written failed (steady_sends old new (text_of_plan plan) failed w no_write)
complete_make plan old new NoMemory w no_write = (1, lit< tt, refl)
complete_make plan old new a w no_write = absurd w
