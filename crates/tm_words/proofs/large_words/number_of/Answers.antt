use Rattle.std.proofs.Common.{map, string_bytes}
use Rattle.clap.specs.Simple.{app_of}
use Rattle.tm_words.specs.CommandLines.{large_app}
use Rattle.tm_words.proofs.FoundLemmas.{found_as}
use Rattle.tm_words.proofs.LargeWalk.{large_simple, no_number, number_found, number_plain}
use Rattle.tm_words.proofs.Walks.{are_plain}
use Rattle.tm_words.proofs.large_words.number_of.Goals as goal

pub returns-then-have_hyphens : goal.returns-then-have_hyphens
returns-then-have_hyphens c = number_plain c.args.words.now c.have_hyphens.result c.have_hyphens.ensures c.if-have_hyphens.true

pub returns-in_default : goal.returns-in_default
returns-in_default c =
    let found = found_as (app_of c.in_ok-large_command.field-0) large_app (map string_bytes c.args.words.now) c.in_ok-matches.field-0 c.in_ok-large_command.ensures large_simple c.in_ok-matches.ensures in
    no_number (map string_bytes c.args.words.now) (rw c.in_default.is at found)

pub returns : goal.returns
returns c =
    let found = found_as (app_of c.in_ok-large_command.field-0) large_app (map string_bytes c.args.words.now) c.in_ok-matches.field-0 c.in_ok-large_command.ensures large_simple c.in_ok-matches.ensures in
    number_found (map string_bytes c.args.words.now) c.in-Some.matches c.get_str.result c.unwrap_or_default.result c.value_of.result
    (are_plain c.args.words.now c.have_hyphens.result c.have_hyphens.ensures c.if-have_hyphens.false)
    (rw c.in-Some.is at found) c.get_str.ensures c.unwrap_or_default.ensures c.value_of.ensures
