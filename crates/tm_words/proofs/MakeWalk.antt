-- What `clap` makes of the words of `make`: a kind, and two to five words behind it.
use Rattle.std.proofs.Common.{◌≡◌, ◌≤◌, ◌==◌, ℕ, suc, true, false, List, [], ◌∷◌, ◌++◌, length, nat_lt, codes, if◌then◌else◌, Some, None, refl, sym, ap, ◌∙◌, arith, append_assoc, append-nil, ne_eqb}
use borrow.Author.Tests.{le-false}
use Rattle.std.proofs.lemmas.Bool.{or_parts}
use Rattle.std.specs.List.{list_any}
use Rattle.clap.specs.Faults.{fault_of, is_simple_and_free, turn_fault}
use Rattle.clap.specs.Kinds.{Kinds, or_else, range_kinds, values_kinds}
use Rattle.clap.specs.Simple.{App, built, matches_of}
use Rattle.clap.specs.Walk.{Row, Text, Walk, finished, idle, nothing_held, positional, walked}
use Rattle.clap.specs.declared.builder.value_parser.ValueParser.TheVariants as parser
use Rattle.clap.specs.declared.builder.value_parser.Reading.TheVariants.{AsWritten}
use Rattle.clap.specs.declared.error.kind.ErrorKind.TheVariants.{InvalidValue, MissingRequiredArgument, TooFewValues, TooManyValues}
use Rattle.clap.specs.declared.parser.matches.ValueSource.TheVariants.{CommandLine}
use Rattle.clap.proofs.OnLiterals.{clap_on_literals}
use Rattle.tm_words.specs.CommandLines.{is_hyphened, make_app}
use Rattle.tm_words.proofs.Walks.{contradicts, faultless-step, faults, faults-step, plain-turn, plain-walked, stand, walk_end}

pub make_simple : is_simple_and_free make_app ≡ true
make_simple = refl

abbrev app : App
app = built make_app

abbrev start : Walk
start = stand nothing_held idle 1

abbrev row : Text → List Text → Row
row id values = record { id = id; values = values; count = None; source = Some CommandLine; reading = AsWritten }

-- the kind is there, and then words behind it
abbrev with_kind : Text → Walk
with_kind k = stand (record { rows = []; pending = Some (codes "kind", k ∷ []); skip = 0 }) idle 2

abbrev with_sizes : Text → List Text → Walk
with_sizes k ws = stand (record { rows = row (codes "kind") (k ∷ []) ∷ []; pending = Some (codes "sizes", ws); skip = 0 }) positional 2

abbrev pub rows : Text → List Text → List Row
rows k ws = row (codes "kind") (k ∷ []) ∷ row (codes "sizes") ws ∷ []

-- ---- word by word

kind-turn : (k : Text) → is_hyphened k ≡ false → turn_fault app.top [] start k ≡ []
unfolding clap_on_literals
kind-turn k plain = plain-turn app.top nothing_held idle 1 k plain

kind-walked : (k : Text) → is_hyphened k ≡ false → walked app.top.rules [] start k ≡ with_kind k
unfolding clap_on_literals
kind-walked k plain = plain-walked app.top.rules nothing_held idle 1 k plain

size-turn : (k w : Text) → is_hyphened w ≡ false → turn_fault app.top [] (with_kind k) w ≡ []
unfolding clap_on_literals
size-turn k w plain = plain-turn app.top (with_kind k).held idle 2 w plain

size-walked : (k w : Text) → is_hyphened w ≡ false → walked app.top.rules [] (with_kind k) w ≡ with_sizes k (w ∷ [])
unfolding clap_on_literals
size-walked k w plain = plain-walked app.top.rules (with_kind k).held idle 2 w plain

more-turn : (k : Text) (ws : List Text) (w : Text) → is_hyphened w ≡ false → turn_fault app.top [] (with_sizes k ws) w ≡ []
unfolding clap_on_literals
more-turn k ws w plain = plain-turn app.top (with_sizes k ws).held positional 2 w plain

more-walked : (k : Text) (ws : List Text) (w : Text) → is_hyphened w ≡ false → walked app.top.rules [] (with_sizes k ws) w ≡ with_sizes k (ws ++ w ∷ [])
unfolding clap_on_literals
more-walked k ws w plain = plain-walked app.top.rules (with_sizes k ws).held positional 2 w plain

-- ---- at the end

no_words : fault_of make_app [] ≡ MissingRequiredArgument ∷ []
unfolding clap_on_literals
no_words = refl

kind-end : (k : Text) → faults app (with_kind k) [] ≡ MissingRequiredArgument ∷ []
unfolding clap_on_literals
kind-end k = refl

-- two to five values are as many as there may be, and each is taken
in_range : (n : ℕ) → (n == 0) ≡ false → nat_lt n 2 ≡ false → nat_lt 5 n ≡ false → range_kinds 2 5 n ≡ []
in_range n some least most =
    ap (λ t. if t then InvalidValue ∷ [] else (if nat_lt n 2 then TooFewValues ∷ [] else (if nat_lt 5 n then TooManyValues ∷ [] else []))) some
    ∙ ap (λ t. if t then TooFewValues ∷ [] else (if nat_lt 5 n then TooManyValues ∷ [] else [])) least
    ∙ ap (λ t. if t then TooManyValues ∷ [] else []) most

range-none : (n : ℕ) → 2 ≤ n → n ≤ 5 → range_kinds 2 5 n ≡ []
range-none n least most = in_range n (ne_eqb n 0 (λ e. omega arith)) (sym (le-false n 2 least)) (sym (le-false 5 n most))

each-taken : (ws : List Text) → values_kinds false parser.String ws ≡ []
each-taken [] = refl
each-taken (w ∷ ws) = each-taken ws

sizes-rows : (k v : Text) (ws : List Text) → finished app.top.rules (with_sizes k (v ∷ ws)).held ≡ rows k (v ∷ ws)
sizes-rows k v ws = refl

by-count : (range values : Kinds) → range ≡ [] → values ≡ [] → or_else (or_else range values) [] ≡ []
by-count range values none taken = ap (λ r. or_else (or_else r values) []) none ∙ ap (λ v. or_else v []) taken

sizes-end : (k v : Text) (ws : List Text) → 2 ≤ suc (length ws) → suc (length ws) ≤ 5 → faults app (with_sizes k (v ∷ ws)) [] ≡ []
unfolding clap_on_literals
sizes-end k v ws least most = by-count (range_kinds 2 5 (suc (length ws))) (values_kinds false parser.String ws) (range-none (suc (length ws)) least most) (each-taken ws)

-- ---- all words

abbrev plain_all : List Text → Type 0
plain_all ws = list_any is_hyphened ws ≡ false

more-rows : (k v : Text) (ws more : List Text) → plain_all more → finished app.top.rules (walk_end app (with_sizes k (v ∷ ws)) more).held ≡ rows k (v ∷ (ws ++ more))
more-rows k v ws [] plain = ap (λ all. rows k (v ∷ all)) (sym (append-nil ws))
more-rows k v ws (w ∷ more) plain =
    let parts = or_parts (is_hyphened w) (list_any is_hyphened more) plain in
    ap (λ at. finished app.top.rules (walk_end app at more).held) (more-walked k (v ∷ ws) w parts.0)
    ∙ more-rows k v (ws ++ w ∷ []) more parts.1 ∙ ap (λ all. rows k (v ∷ all)) (append_assoc ws (w ∷ []) more)

more-faults : (k v : Text) (ws more : List Text) → plain_all more → 2 ≤ suc (length (ws ++ more)) → suc (length (ws ++ more)) ≤ 5 → faults app (with_sizes k (v ∷ ws)) more ≡ []
more-faults k v ws [] plain least most =
    let same : length (ws ++ []) ≡ length ws = ap length (append-nil ws) in
    sizes-end k v ws (omega arith) (omega arith)
more-faults k v ws (w ∷ more) plain least most =
    let parts = or_parts (is_hyphened w) (list_any is_hyphened more) plain in
    let same : length ((ws ++ w ∷ []) ++ more) ≡ length (ws ++ w ∷ more) = ap length (append_assoc ws (w ∷ []) more) in
    faults-step app (with_sizes k (v ∷ ws)) (with_sizes k (v ∷ (ws ++ w ∷ []))) w more [] (more-turn k (v ∷ ws) w parts.0) (more-walked k (v ∷ ws) w parts.0)
    ∙ more-faults k v (ws ++ w ∷ []) more parts.1 (omega arith) (omega arith)

pub rows_are : (k v : Text) (ws : List Text) → plain_all (k ∷ v ∷ ws) → matches_of make_app (k ∷ v ∷ ws) ≡ rows k (v ∷ ws)
rows_are k v ws plain =
    let first = or_parts (is_hyphened k) (list_any is_hyphened (v ∷ ws)) plain in
    let second = or_parts (is_hyphened v) (list_any is_hyphened ws) first.1 in
    ap (λ at. finished app.top.rules (walk_end app at (v ∷ ws)).held) (kind-walked k first.0)
    ∙ ap (λ at. finished app.top.rules (walk_end app at ws).held) (size-walked k v second.0)
    ∙ more-rows k v [] ws second.1

pub no_fault : (k v : Text) (ws : List Text) → plain_all (k ∷ v ∷ ws) → 2 ≤ suc (length ws) → suc (length ws) ≤ 5 → fault_of make_app (k ∷ v ∷ ws) ≡ []
no_fault k v ws plain least most =
    let first = or_parts (is_hyphened k) (list_any is_hyphened (v ∷ ws)) plain in
    let second = or_parts (is_hyphened v) (list_any is_hyphened ws) first.1 in
    faults-step app start (with_kind k) k (v ∷ ws) [] (kind-turn k first.0) (kind-walked k first.0)
    ∙ faults-step app (with_kind k) (with_sizes k (v ∷ [])) v ws [] (size-turn k v second.0) (size-walked k v second.0)
    ∙ more-faults k v [] ws second.1 least most

-- fewer words have a fault
pub too_few : (k : Text) → is_hyphened k ≡ false → ¬ (fault_of make_app (k ∷ []) ≡ [])
too_few k plain none =
    let next = faultless-step app start (with_kind k) k [] [] (kind-turn k plain) (kind-walked k plain) none in
    contradicts _ _ _ next.1 (kind-end k)

pub none_given : ¬ (fault_of make_app [] ≡ [])
none_given none = contradicts _ _ _ none no_words
