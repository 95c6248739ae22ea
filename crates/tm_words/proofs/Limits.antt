-- What words spell is within its limits.
use Rattle.std.proofs.Common.{ℕ, ◌≤◌, List, [], ◌∷◌, get_or, sym, subst, arith}
use Rattle.tm_base.specs.declared.rules.Rules.{Rules}
use Rattle.tm_base.specs.declared.rules.TheConstants.{MOST_CALLS, USUAL_CALLS}
use Rattle.tm_words.specs.declared.commands.Command.TheVariants.{Check, Large, Make, Run}
use Rattle.tm_words.specs.Commands.{CommandsAreWithinLimits}
use Rattle.tm_words.specs.RunWords.{AreSettings, Events, Schedule, Setting, limits_of}

limits-small : (words : List (List ℕ)) (ss : List Setting) → AreSettings words ss → get_or (limits_of ss) 0 USUAL_CALLS ≤ MOST_CALLS
limits-small words [] are = omega arith
limits-small words (Schedule v ∷ ss) are = limits-small are.0 ss are.2
limits-small words (Events v ∷ ss) are = omega (arith, are.1.spelled.allowed.1)

pub within_limits : CommandsAreWithinLimits
within_limits words (Run rules) spelled =
    subst (λ (r : Rules). r.limit ≤ MOST_CALLS) (sym spelled.spelled.made)
    (limits-small spelled.arguments spelled.spelled.settings spelled.spelled.spelled)
within_limits words Check spelled = tt
within_limits words (Make plan) spelled = spelled.spelled.in_range
within_limits words (Large n) spelled = spelled.spelled.bound
