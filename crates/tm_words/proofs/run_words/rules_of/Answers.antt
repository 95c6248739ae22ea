use Rattle.std.proofs.Common.{map, string_bytes}
use Rattle.clap.specs.Simple.{app_of}
use Rattle.tm_words.specs.CommandLines.{run_app}
use Rattle.tm_words.specs.SettingsSet.{text_of}
use Rattle.tm_words.proofs.FoundLemmas.{found_as}
use Rattle.tm_words.proofs.RulesLemmas.{faulty_rules, rules_found, run_simple, unreadable}
use Rattle.tm_words.proofs.run_words.rules_of.Goals as goal

pub returns-then-not-are_readable : goal.returns-then-not-are_readable
returns-then-not-are_readable c = unreadable c.args.words.now c.are_readable.result c.are_readable.ensures c.if-not-are_readable.true

pub returns-in_default : goal.returns-in_default
returns-in_default c =
    let found = found_as (app_of c.in_ok-run_command.field-0) run_app (map string_bytes c.args.words.now) c.in_ok-matches.field-0 c.in_ok-run_command.ensures run_simple c.in_ok-matches.ensures in
    faulty_rules (map string_bytes c.args.words.now) (rw c.in_default.is at found)

pub returns : goal.returns
returns c =
    let found = found_as (app_of c.in_ok-run_command.field-0) run_app (map string_bytes c.args.words.now) c.in_ok-matches.field-0 c.in_ok-run_command.ensures run_simple c.in_ok-matches.ensures in
    rules_found c.args.words.now c.are_readable.result c.in-Some.matches (text_of c.get_str.result) (text_of c.get_str-2.result) c.rules_set.result
    c.are_readable.ensures c.if-not-are_readable.false (rw c.in-Some.is at found) c.get_str.ensures c.get_str-2.ensures c.rules_set.ensures
