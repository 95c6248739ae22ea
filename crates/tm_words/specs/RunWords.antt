-- What the words after `run` spell: settings, and the rules that they make.
use Rattle.std.specs.Prelude.{◌≡◌, ℕ, ◌<◌, ◌≤◌, ◌^◌, ◌⊎◌, List, [], ◌∷◌, ◌++◌, length, codes, get_or}
use Rattle.tm_base.specs.declared.rules.Rules.{Rules}
use Rattle.tm_base.specs.declared.rules.TheConstants.{USUAL_CALLS}
use Rattle.tm_words.specs.declared.settings.TheConstants.{FEWEST_EVENTS, MOST_EVENTS, USUAL_SCHEDULE}
use Rattle.tm_words.specs.Numbers.{IsNumber}

-- What an option sets: the schedule, or how many calls a thread may make.
pub data Setting : Type 0 where
  Schedule : ℕ → Setting
  Events : ℕ → Setting

-- The word of a setting's option.
abbrev pub option_word : Setting → List ℕ
option_word (Schedule v) = codes "--schedule"
option_word (Events v) = codes "--events"

-- The number that it is set to.
abbrev pub setting_value : Setting → ℕ
setting_value (Schedule v) = v
setting_value (Events v) = v

-- Every schedule of 64 bits may be set, and from the fewest to the most calls of a thread.
abbrev pub IsAllowed : Setting → Type 0
IsAllowed (Schedule v) = v < 2 ^ 64
IsAllowed (Events v) = (FEWEST_EVENTS ≤ v) × (v ≤ MOST_EVENTS)

-- The option's word and its value's are two words, or one with `=` between them.
abbrev pub AreOption : List (List ℕ) → List ℕ → List ℕ → Type 0
AreOption words option number = (words ≡ option ∷ number ∷ []) ⊎ (words ≡ (option ++ codes "=" ++ number) ∷ [])

-- The words are the spelling of a setting: its option with a number of its value, which is allowed.
pub record SpellsSetting (words : List (List ℕ)) (s : Setting) : Type 0 where
  pub number : List ℕ
  pub written : AreOption words (option_word s) number
  pub value : IsNumber number (setting_value s)
  pub allowed : IsAllowed s

-- The words are a spelling of the setting and then these.
pub record Begins (words : List (List ℕ)) (s : Setting) (back : List (List ℕ)) : Type 0 where
  pub prefix : List (List ℕ)
  pub parts : words ≡ prefix ++ back
  pub spelled : SpellsSetting prefix s

-- The words are spellings of these settings, one after another.
abbrev pub AreSettings : List (List ℕ) → List Setting → Type 0
AreSettings words [] = words ≡ []
AreSettings words (s ∷ ss) = (back : List (List ℕ)) × Begins words s back × AreSettings back ss

-- The schedules that settings set, in order.
abbrev pub schedules_of : List Setting → List ℕ
schedules_of [] = []
schedules_of (Schedule v ∷ ss) = v ∷ schedules_of ss
schedules_of (Events v ∷ ss) = schedules_of ss

-- The numbers of calls that they set, in order.
abbrev pub limits_of : List Setting → List ℕ
limits_of [] = []
limits_of (Schedule v ∷ ss) = limits_of ss
limits_of (Events v ∷ ss) = v ∷ limits_of ss

-- No two set the same.
abbrev pub AtMostOnce : List Setting → Type 0
AtMostOnce ss = (length (schedules_of ss) ≤ 1) × (length (limits_of ss) ≤ 1)

-- The rules that they make: the usual schedule and the usual number of calls where they set none.
abbrev pub rules_by : List Setting → Rules
rules_by ss = record { schedule = get_or (schedules_of ss) 0 USUAL_SCHEDULE; limit = get_or (limits_of ss) 0 USUAL_CALLS }

-- The words are settings, each at most once, in any order, that make these rules.
pub record SpellsRules (words : List (List ℕ)) (rules : Rules) : Type 0 where
  pub settings : List Setting
  pub spelled : AreSettings words settings
  pub once : AtMostOnce settings
  pub made : rules ≡ rules_by settings
