-- What a status tells of what happened, by what the words spell.
use Rattle.std.proofs.Common.{ℕ, true, false, List, [], ◌∷◌, Option, Some, None, lit<, refl, String, ◌≡◌, sym, subst, arith, inl, inr}
use Rattle.std.specs.List.{Contains}
use Rattle.std.specs.declared.alloc.Global.{Global}
use Rattle.tm_outside.specs.Taking.{TakesAtMost}
use Rattle.tm_words.specs.declared.commands.Command.{Command}
use Rattle.tm_words.specs.declared.commands.Command.TheVariants.{Check, Large, Make, Run}
use Rattle.tm_words.specs.Commands.{Spells, SpellsNothing}
use Rattle.tm_words.proofs.CommandLemmas.{one_command}
use Rattle.tm_mentor.specs.declared.refusals.Refusal.TheVariants.{Usage}
use Rattle.tm_mentor.specs.declared.answers.Answer.{Answer}
use Rattle.tm_mentor.specs.declared.answers.Answer.TheVariants.{Refused, NoMemory}
use Rattle.tm_mentor.specs.declared.outcomes.Outcome.{Outcome}
use Rattle.tm_mentor.specs.Answers.{outcome_of}
use Rattle.tm_mentor.specs.Commands.{Answers, CannotSpell, CommandAnswers, UsageAnswers}
use Rattle.tm_mentor.specs.Outside.{Exchange, Input, ReadsNothing}
use Rattle.tm_mentor.proofs.CheckOwed.{check_owes}
use Rattle.tm_mentor.proofs.LargeOwed.{large_owes}
use Rattle.tm_mentor.proofs.MakeOwed.{make_owes}
use Rattle.tm_mentor.proofs.Owed.{Owes, short_owes, unread_steady, usage_owes}
use Rattle.tm_mentor.proofs.RunOwed.{run_owes}

-- each command owes all that its status tells, and so does what is answered where there is none
command_owes : (words : List (String Global)) (o : Exchange) (a : Answer) (c : Command) → Spells words c → CommandAnswers c o a → Owes words o (outcome_of a)
command_owes words o a (Run rules) spelled w = run_owes words rules o a spelled w
command_owes words o a Check spelled w = check_owes words o a spelled w
command_owes words o a (Make plan) spelled w = make_owes words plan o a spelled (unread_steady o w.0) w.1
command_owes words o a (Large number) spelled w = large_owes words number o a (unread_steady o w.0) w.1

unspelled_owes : (words : List (String Global)) (o : Exchange) (a : Answer) → SpellsNothing words → UsageAnswers o a → Owes words o (outcome_of a)
unspelled_owes words o (Refused Usage failed) none w = usage_owes words o failed (unread_steady o w.0) w.1 none
unspelled_owes words o a none w = absurd w

memory_owes : (words : List (String Global)) (o : Exchange) (a : Answer) → CannotSpell o a → Owes words o (outcome_of a)
memory_owes words o NoMemory w = short_owes words o (unread_steady o w.0)
memory_owes words o a w = absurd w

owes_by : (words : List (String Global)) (o : Exchange) (a : Answer) → Answers words o a → Owes words o (outcome_of a)
owes_by words o a (inl u) = unspelled_owes words o a u.unspelled u.answers
owes_by words o a (inr (inl w)) = command_owes words o a w.command w.spelled w.answers
owes_by words o a (inr (inr none)) = memory_owes words o a none

pub owes : (words : List (String Global)) (o : Exchange) (a : Answer) (outcome : Outcome) → Answers words o a → outcome ≡ outcome_of a → Owes words o outcome
owes words o a outcome w same = subst (Owes words o) (sym same) (owes_by words o a w)

-- where nothing is read nothing is taken
takes_nothing : (n : ℕ) (left : Option (List ℕ)) → TakesAtMost n left left
takes_nothing n None = record { prefix = []; taken = tt; few = omega arith }
takes_nothing n (Some bytes) = record { prefix = []; taken = refl; few = omega arith }

unread_takes : (n : ℕ) (o : Exchange) → ReadsNothing o → TakesAtMost n o.source_before.left o.source_after.left
unread_takes n o same = subst (λ (i : Input). TakesAtMost n o.source_before.left i.left) (sym same) (takes_nothing n o.source_before.left)

-- want of memory for the words is one that each command may answer
cannot_spell : (c : Command) (o : Exchange) (a : Answer) → CannotSpell o a → CommandAnswers c o a
cannot_spell (Run rules) o NoMemory w = inl (record { taken = unread_takes _ o w.0; steady = unread_steady o w.0 }, w.1)
cannot_spell Check o NoMemory w = inl (record { taken = unread_takes _ o w.0; steady = unread_steady o w.0 }, w.1)
cannot_spell (Make plan) o NoMemory w = w
cannot_spell (Large number) o NoMemory w = w
cannot_spell c o a w = absurd w

-- what the command that words spell answers
pub answers_of : (words : List (String Global)) (o : Exchange) (a : Answer) (c : Command) → Answers words o a → Spells words c → CommandAnswers c o a
answers_of words o a c (inl u) spelled = absurd (u.unspelled c spelled)
answers_of words o a c (inr (inl w)) spelled =
    subst (λ d. CommandAnswers d o a) (one_command words w.command c w.spelled spelled) w.answers
answers_of words o a c (inr (inr none)) spelled = cannot_spell c o a none

-- what is answered to words that spell no command
usage_status : (o : Exchange) (a : Answer) → UsageAnswers o a → Contains (2 ∷ 5 ∷ 9 ∷ []) (outcome_of a).status
usage_status o (Refused Usage false) w = (0, lit< tt, refl)
usage_status o (Refused Usage true) w = (1, lit< tt, refl)
usage_status o a w = absurd w

memory_status : (o : Exchange) (a : Answer) → CannotSpell o a → Contains (2 ∷ 5 ∷ 9 ∷ []) (outcome_of a).status
memory_status o NoMemory w = (2, lit< tt, refl)
memory_status o a w = absurd w

pub unspelled_by : (words : List (String Global)) (o : Exchange) (a : Answer) → Answers words o a → SpellsNothing words → Contains (2 ∷ 5 ∷ 9 ∷ []) (outcome_of a).status
unspelled_by words o a (inl u) none = usage_status o a u.answers
unspelled_by words o a (inr (inl w)) none = absurd (none w.command w.spelled)
unspelled_by words o a (inr (inr short)) none = memory_status o a short
