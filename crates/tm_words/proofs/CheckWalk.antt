-- What `clap` makes of the words of `check`, which has none.
use Rattle.std.proofs.Common.{◌≡◌, true, false, Bool, List, [], ◌∷◌, codes, map, string_bytes, String, IsTrue, is_some, Option, Some, None, refl, sym, ◌∙◌}
use Rattle.std.proofs.lemmas.Bool.{or_parts, true≢false}
use Rattle.std.specs.List.{list_any}
use Rattle.std.specs.declared.alloc.Global.{Global}
use Rattle.clap.specs.Faults.{fault_of, is_simple_and_free, turn_fault}
use Rattle.clap.specs.Simple.{App, built}
use Rattle.clap.specs.Walk.{Text, idle, nothing_held}
use Rattle.clap.specs.declared.error.kind.ErrorKind.TheVariants.{UnknownArgument}
use Rattle.clap.specs.declared.parser.matches.ArgMatches.{ArgMatches}
use Rattle.clap.proofs.OnLiterals.{clap_on_literals}
use Rattle.tm_words.specs.CommandLines.{IsFoundIn, bare_app, is_hyphened}
use Rattle.tm_words.proofs.Walks.{contradicts, faulty, plain-turn, stand}

abbrev pub check_app : App
check_app = bare_app (codes "check")

pub check_simple : is_simple_and_free check_app ≡ true
check_simple = refl

no_words : fault_of check_app [] ≡ []
unfolding clap_on_literals
no_words = refl

stray : (w : Text) → is_hyphened w ≡ false → turn_fault (built check_app).top [] (stand nothing_held idle 1) w ≡ UnknownArgument ∷ []
unfolding clap_on_literals
stray w plain = plain-turn (built check_app).top nothing_held idle 1 w plain

refused : (w : Text) (words : List Text) → is_hyphened w ≡ false → ¬ (fault_of check_app (w ∷ words) ≡ [])
refused w words plain none = contradicts _ _ _ (faulty (built check_app) (stand nothing_held idle 1) w words none) (stray w plain)

pub alone : (words : List (String Global)) (hyphens : Bool) (found : Option ArgMatches) (r : Bool) → hyphens ≡ list_any (λ word. is_hyphened (string_bytes word)) words → hyphens ≡ false
    → IsFoundIn check_app (map string_bytes words) found → r ≡ is_some found → (IsTrue r → map string_bytes words ≡ []) × (map string_bytes words ≡ [] → IsTrue r)
alone [] hyphens None r is is_false found some = (λ is_true. refl, λ empty. absurd (found no_words))
alone [] hyphens (Some m) r is is_false found some = (λ is_true. refl, λ empty. some)
alone (w ∷ ws) hyphens None r is is_false found some = (λ is_true. absurd (true≢false (sym is_true ∙ some)), λ empty. absurd (cc))
alone (w ∷ ws) hyphens (Some m) r is is_false found some =
    let plain = (or_parts (is_hyphened (string_bytes w)) (list_any (λ word. is_hyphened (string_bytes word)) ws) (sym is ∙ is_false)).0 in
    (λ is_true. absurd (refused (string_bytes w) (map string_bytes ws) plain found.0), λ empty. absurd (cc))
