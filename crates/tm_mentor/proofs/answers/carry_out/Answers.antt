use Rattle.std.proofs.Common.{Option, subst}
use Rattle.std.specs.Option.{MatchOption}
use Rattle.tm_words.specs.declared.commands.Command.{Command}
use Rattle.tm_words.specs.Commands.{IsWithinLimits, Spells, SpellsNothing}
use Rattle.tm_words.proofs.Limits.{within_limits}
use Rattle.tm_mentor.proofs.answers.carry_out.Goals as goal

pub run-requires : goal.run-requires
run-requires g c =
    let words = c.args.words.now in
    let run = c.in-Ok-Some-Run in
    let P : Option Command → Type 0 = λ found. MatchOption found (SpellsNothing words) (λ command. Spells words command) in
    let within = within_limits words run.field-0-0 (subst P run.field-0-is run.ensures.spelled) in
    record { limit = subst IsWithinLimits run.field-0-0-is within }
