-- What `clap` makes of the words of `large`: one number.
use Rattle.std.proofs.Common.{◌≡◌, ◌≤◌, ◌<◌, ◌^◌, ◌||◌, ℕ, true, false, Bool, List, [], ◌∷◌, codes, map, string_bytes, String, Option, Some, None, MatchOption, option_map, Bor, refl, sym, ap, subst, ◌∙◌, arith}
use Rattle.std.proofs.lemmas.Bool.{or_parts}
use Rattle.std.specs.List.{list_any}
use Rattle.std.specs.Option.{UnwrapsOrElse}
use Rattle.std.specs.declared.alloc.Global.{Global}
use Rattle.clap.specs.Faults.{fault_of, is_simple_and_free, turn_fault}
use Rattle.clap.specs.Matches.{first_value, found_of}
use Rattle.clap.specs.Simple.{App, built, matches_of}
use Rattle.clap.specs.Walk.{Row, Text, Walk, first_of, idle, nothing_held, rows_of, walked}
use Rattle.clap.specs.declared.builder.value_parser.Reading.TheVariants.{AsWritten}
use Rattle.clap.specs.declared.error.kind.ErrorKind.TheVariants.{MissingRequiredArgument, UnknownArgument}
use Rattle.clap.specs.declared.parser.matches.ArgMatches.{ArgMatches}
use Rattle.clap.specs.declared.parser.matches.ValueSource.TheVariants.{CommandLine}
use Rattle.clap.proofs.OnLiterals.{clap_on_literals}
use Rattle.clap.proofs.WalkLemmas.{first_value-rows}
use Rattle.tm_words.specs.CommandLines.{is_hyphened, large_app}
use Rattle.tm_words.specs.LargeWords.{SpellsNumber}
use Rattle.tm_words.specs.Numbers.{IsNumber}
use Rattle.tm_words.proofs.Choices.{plain_digits}
use Rattle.tm_words.proofs.FoundLemmas.{text_is}
use Rattle.tm_words.proofs.Walks.{Finds, contradicts, faultless-step, faulty, finds-step, plain-turn, plain-walked, plain_words, stand}

pub large_simple : is_simple_and_free large_app ≡ true
large_simple = refl

abbrev app : App
app = built large_app

abbrev start : Walk
start = stand nothing_held idle 1

-- the number is there
abbrev given : Text → Walk
given w = stand (record { rows = []; pending = Some (codes "number", w ∷ []); skip = 0 }) idle 2

abbrev rows : Text → List Row
rows w = record { id = codes "number"; values = w ∷ []; count = None; source = Some CommandLine; reading = AsWritten } ∷ []

no_words : fault_of large_app [] ≡ MissingRequiredArgument ∷ []
unfolding clap_on_literals
no_words = refl

first-turn : (w : Text) → is_hyphened w ≡ false → turn_fault app.top [] start w ≡ []
unfolding clap_on_literals
first-turn w plain = plain-turn app.top nothing_held idle 1 w plain

first-walked : (w : Text) → is_hyphened w ≡ false → walked app.top.rules [] start w ≡ given w
unfolding clap_on_literals
first-walked w plain = plain-walked app.top.rules nothing_held idle 1 w plain

given-end : (w : Text) → Finds app (given w) [] (rows w)
unfolding clap_on_literals
given-end w = record { fault = refl; rows_are = refl }

second-turn : (w v : Text) → is_hyphened v ≡ false → turn_fault app.top [] (given w) v ≡ UnknownArgument ∷ []
unfolding clap_on_literals
second-turn w v plain = plain-turn app.top (given w).held idle 2 v plain

one_word : (w : Text) → is_hyphened w ≡ false → Finds app start (w ∷ []) (rows w)
one_word w plain = finds-step app start (given w) w [] (rows w) (first-turn w plain) (first-walked w plain) (given-end w)

two_words : (w v : Text) (words : List Text) → is_hyphened w ≡ false → is_hyphened v ≡ false → ¬ (fault_of large_app (w ∷ v ∷ words) ≡ [])
two_words w v words plain other none =
    let next = faultless-step app start (given w) w (v ∷ words) [] (first-turn w plain) (first-walked w plain) none in
    contradicts _ _ _ (faulty app (given w) v words next.1) (second-turn w v other)

-- the digits of a number are the only word
pub number_plain : (words : List (String Global)) (hyphens : Bool) → hyphens ≡ list_any (λ word. is_hyphened (string_bytes word)) words → hyphens ≡ true → (n : ℕ) → ¬ SpellsNumber (map string_bytes words) n
number_plain words hyphens is is_true n spelled =
    plain_words words hyphens is is_true (ap (list_any is_hyphened) spelled.written ∙ ap (λ b. b || false) (plain_digits spelled.digits n spelled.value))

pub no_number : (words : List Text) → ¬ (fault_of large_app words ≡ []) → (n : ℕ) → ¬ SpellsNumber words n
no_number words fault n spelled =
    fault (ap (fault_of large_app) spelled.written ∙ (one_word spelled.digits (plain_digits spelled.digits n spelled.value)).fault)

spell_one : (w : Text) (n : ℕ) → SpellsNumber (w ∷ []) n → IsNumber w n × (n < 2 ^ 64)
spell_one w n spelled =
    let e = spelled.written in
    let same : w ≡ spelled.digits = cc in
    (subst (λ (d : Text). IsNumber d n) (sym same) spelled.value, spelled.bound)

spell_by : (w : Text) (r : Option ℕ) → MatchOption r ((n : ℕ) → IsNumber w n → 2 ^ 64 ≤ n) (λ n. IsNumber w n × (n < 2 ^ 64))
    → MatchOption r ((n : ℕ) → ¬ SpellsNumber (w ∷ []) n) (λ n. SpellsNumber (w ∷ []) n)
spell_by w None none = λ n spelled. let one = spell_one w n spelled in let far = none n one.0 in absurd (omega (arith, one.1))
spell_by w (Some n) is = record { digits = w; written = refl; value = is.0; bound = is.1 }

-- the value that is found is the only word
pub number_found : (words : List Text) (m : ArgMatches) (o : Option (Bor Text)) (t : Bor Text) (r : Option ℕ) → list_any is_hyphened words ≡ false
    → (fault_of large_app words ≡ []) × (rows_of (found_of m) ≡ matches_of large_app words) → option_map (λ s. s.now) o ≡ first_value (found_of m) (codes "number") → UnwrapsOrElse o (λ d. d.now ≡ []) t
    → MatchOption r ((n : ℕ) → IsNumber t.now n → 2 ^ 64 ≤ n) (λ n. IsNumber t.now n × (n < 2 ^ 64))
    → MatchOption r ((n : ℕ) → ¬ SpellsNumber words n) (λ n. SpellsNumber words n)
number_found [] m o t r plain found value is read = absurd (contradicts _ _ _ found.0 no_words)
number_found (w ∷ []) m o t r plain found value is read =
    let word = one_word w (or_parts (is_hyphened w) false plain).0 in
    let some : option_map (λ s. s.now) o ≡ Some w = value ∙ first_value-rows (found_of m) (codes "number") ∙ ap (first_of (codes "number")) (found.1 ∙ word.rows_are) in
    let P : Text → Type 0 = λ b. MatchOption r ((n : ℕ) → IsNumber b n → 2 ^ 64 ≤ n) (λ n. IsNumber b n × (n < 2 ^ 64)) in
    spell_by w r (subst P (text_is o w t some is) read)
number_found (w ∷ v ∷ words) m o t r plain found value is read =
    let here = or_parts (is_hyphened w) (list_any is_hyphened (v ∷ words)) plain in
    let there = or_parts (is_hyphened v) (list_any is_hyphened words) here.1 in
    absurd (two_words w v words here.0 there.0 found.0)
