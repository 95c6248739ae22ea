-- What the values of a run's options set.
use Rattle.std.specs.Prelude.{◌≡◌, ℕ, ◌<◌, ◌≤◌, ◌^◌, Option, Some, None, option_map}
use Rattle.std.specs.Borrow.{Bor}
use Rattle.clap.specs.Walk.{Text}
use Rattle.tm_base.specs.declared.rules.Rules.{Rules}
use Rattle.tm_base.specs.declared.rules.TheConstants.{USUAL_CALLS}
use Rattle.tm_words.specs.declared.settings.TheConstants.{FEWEST_EVENTS, MOST_EVENTS, USUAL_SCHEDULE}
use Rattle.tm_words.specs.Numbers.{IsNumber}

-- The text of an option's value, where the option is there.
abbrev pub text_of : Option (Bor Text) → Option Text
text_of = option_map (λ s. s.now)

-- The schedule is the value's number, or the usual one where there is no value.
abbrev pub IsScheduleSet : Option Text → ℕ → Type 0
IsScheduleSet None n = n ≡ USUAL_SCHEDULE
IsScheduleSet (Some text) n = IsNumber text n × (n < 2 ^ 64)

-- The same of the number of calls.
abbrev pub IsLimitSet : Option Text → ℕ → Type 0
IsLimitSet None n = n ≡ USUAL_CALLS
IsLimitSet (Some text) n = IsNumber text n × (FEWEST_EVENTS ≤ n) × (n ≤ MOST_EVENTS)

-- The rules are those of the two values.
abbrev pub AreSet : Option Text → Option Text → Rules → Type 0
AreSet schedule events rules = IsScheduleSet schedule rules.schedule × IsLimitSet events rules.limit
