-- The words that each command hands to `clap`, and the command lines that `clap` reads them by.
use Rattle.std.specs.Prelude.{◌≡◌, ◌==◌, ◌||◌, Bool, true, false, not, eqb, List, [], ◌∷◌, codes, MatchOption, Option, Some}
use Rattle.std.specs.List.{starts_with}
use Rattle.std.specs.Str.{bytes_eq}
use Rattle.clap.specs.Faults.{fault_of}
use Rattle.clap.specs.Matches.{found_of}
use Rattle.clap.specs.Simple.{App, matches_of, new_app, new_rule, on_top, with_rule}
use Rattle.clap.specs.Walk.{Rule, Text, rows_of}
use Rattle.clap.specs.declared.parser.matches.ArgMatches.{ArgMatches}
use Rattle.clap.specs.declared.builder.action.ArgAction.TheVariants.{Set}

-- The word begins with a hyphen.
abbrev pub is_hyphened : Text → Bool
is_hyphened [] = false
is_hyphened (b ∷ bs) = b == 45

-- The word is an option of `run`, alone or with its value, or begins with no hyphen.
abbrev pub is_readable : Text → Bool
is_readable word = not (is_hyphened word)
    || (bytes_eq word (codes "--schedule")
    || (starts_with eqb word (codes "--schedule=")
    || (bytes_eq word (codes "--events")
    || starts_with eqb word (codes "--events="))))

-- A command line without help, whose words begin with no program's name.
abbrev pub bare_app : Text → App
bare_app name = on_top (λ s. record s { no_binary_name = true; disable_help_flag = true }) (new_app name)

-- An option with a value.
abbrev pub option_rule : Text → Rule
option_rule id = record (new_rule id) { long = Some id; action = Some Set }

-- The command line of `run`.
abbrev pub run_app : App
run_app = with_rule (with_rule (bare_app (codes "run")) (option_rule (codes "schedule"))) (option_rule (codes "events"))

-- One word that has to be there.
abbrev pub required_rule : Text → Rule
required_rule id = record (new_rule id) { required = true }

-- Two words to five.
abbrev pub several_rule : Text → Rule
several_rule id = record (required_rule id) { range = Some (record { start_inclusive = 2; end_inclusive = 5 }) }

-- The command line of `make`: a kind, and its sizes with the word of its way or guard.
abbrev pub make_app : App
make_app = with_rule (with_rule (bare_app (codes "make")) (required_rule (codes "kind"))) (several_rule (codes "sizes"))

-- The command line of `large`: a number.
abbrev pub large_app : App
large_app = with_rule (bare_app (codes "large")) (required_rule (codes "number"))

-- What is found in the words: nothing where the command line refuses them, and else what it matches.
abbrev pub IsFoundIn : App → List Text → Option ArgMatches → Type 0
IsFoundIn app words found = MatchOption found (¬ (fault_of app words ≡ []))
    (λ m. (fault_of app words ≡ []) × (rows_of (found_of m) ≡ matches_of app words))
