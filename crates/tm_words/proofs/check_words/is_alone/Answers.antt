use Rattle.std.proofs.Common.{map, string_bytes}
use Rattle.clap.specs.Simple.{app_of}
use Rattle.tm_words.proofs.CheckWalk.{alone, check_app, check_simple}
use Rattle.tm_words.proofs.FoundLemmas.{found_as}
use Rattle.tm_words.proofs.check_words.is_alone.Goals as goal

pub returns : goal.returns
returns c =
    let found = found_as (app_of c.bare_command.result) check_app (map string_bytes c.args.words.now) c.in_ok-matches.matches c.bare_command.ensures check_simple c.in_ok-matches.ensures in
    alone c.args.words.now c.have_hyphens.result c.in_ok-matches.matches c.is_some.result c.have_hyphens.ensures c.if-have_hyphens.false found c.is_some.ensures
