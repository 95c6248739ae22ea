use Rattle.std.proofs.Common.{map, string_bytes}
use Rattle.clap.specs.Simple.{app_of}
use Rattle.tm_words.specs.CommandLines.{make_app}
use Rattle.tm_words.proofs.FoundLemmas.{found_as}
use Rattle.tm_words.proofs.MakeWalk.{make_simple}
use Rattle.tm_words.proofs.PlansFound.{no_plan, plan_found, plan_plain}
use Rattle.tm_words.proofs.Walks.{are_plain}
use Rattle.tm_words.proofs.make_words.plan_of.Goals as goal

pub returns-then-have_hyphens : goal.returns-then-have_hyphens
returns-then-have_hyphens c = plan_plain c.args.words.now c.have_hyphens.result c.have_hyphens.ensures c.if-have_hyphens.true

pub returns-in_default : goal.returns-in_default
returns-in_default c =
    let found = found_as (app_of c.in_ok-make_command.field-0) make_app (map string_bytes c.args.words.now) c.in_ok-matches.field-0 c.in_ok-make_command.ensures make_simple c.in_ok-matches.ensures in
    no_plan (map string_bytes c.args.words.now) (rw c.in_default.is at found)

pub returns : goal.returns
returns c =
    let found = found_as (app_of c.in_ok-make_command.field-0) make_app (map string_bytes c.args.words.now) c.in_ok-matches.field-0 c.in_ok-make_command.ensures make_simple c.in_ok-matches.ensures in
    plan_found (map string_bytes c.args.words.now) c.in-Some.matches c.get_str.result c.unwrap_or_default-kind.result c.get_strs.result c.unwrap_or_default-sizes.result c.plan_in_range.result
    (are_plain c.args.words.now c.have_hyphens.result c.have_hyphens.ensures c.if-have_hyphens.false)
    (rw c.in-Some.is at found) c.get_str.ensures c.unwrap_or_default-kind.ensures c.get_strs.ensures c.unwrap_or_default-sizes.ensures c.plan_in_range.ensures
