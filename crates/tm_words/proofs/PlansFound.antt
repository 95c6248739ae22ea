-- The plan of an exercise, from what `clap` finds in its words.
use Rattle.std.proofs.Common.{◌≡◌, ◌+◌, ◌≤◌, ◌||◌, ℕ, suc, true, false, Bool, List, [], ◌∷◌, ◌++◌, length, codes, map, string_bytes, String, Option, Some, MatchOption, option_map, Bor, refl, ap, ap₂, subst, ◌∙◌, arith, length-append}
use Rattle.std.proofs.lemmas.Bool.{or_from, or_parts}
use Rattle.std.specs.List.{list_any}
use Rattle.std.specs.Option.{UnwrapsOrElse}
use Rattle.std.specs.declared.alloc.Global.{Global}
use Rattle.clap.specs.Faults.{fault_of}
use Rattle.clap.specs.Matches.{first_value, found_of, matched_of, raw_values}
use Rattle.clap.specs.Simple.{matches_of}
use Rattle.clap.specs.Walk.{Text, all_of, first_of, rows_of, texts}
use Rattle.clap.specs.declared.parser.matches.ArgMatches.{ArgMatches}
use Rattle.clap.proofs.WalkLemmas.{first_value-rows, raw_values-rows}
use Rattle.tm_makers.specs.declared.plans.Guard.{Guard}
use Rattle.tm_makers.specs.declared.plans.Guard.TheVariants.{Hoare, Mesa, Semaphores}
use Rattle.tm_makers.specs.declared.plans.Plan.{Plan}
use Rattle.tm_makers.specs.declared.plans.Plan.TheVariants.{Buffer, Coaster, Philosophers, Readers, Ring}
use Rattle.tm_makers.specs.declared.plans.Way.{Way}
use Rattle.tm_makers.specs.declared.plans.Way.TheVariants.{Asymmetric, Chairs, Naive}
use Rattle.tm_words.specs.CommandLines.{is_hyphened, make_app}
use Rattle.tm_words.specs.MakeWords.{AreNumbers, Describes, SpellsNoPlan, SpellsPlan, guard_word, spelling_of, way_word}
use Rattle.tm_words.proofs.Choices.{plain_digits}
use Rattle.tm_words.proofs.FoundLemmas.{text_is, texts_are}
use Rattle.tm_words.proofs.MakeWalk.{no_fault, none_given, rows_are, too_few}
use Rattle.tm_words.proofs.NumbersLemmas.{are-length}
use Rattle.tm_words.proofs.Walks.{plain_words}

-- ---- no word of a plan begins with a hyphen, and two to five stand behind its kind

plain_way : (way : Way) → is_hyphened (way_word way) ≡ false
plain_way Naive = refl
plain_way Asymmetric = refl
plain_way Chairs = refl

plain_guard : (guard : Guard) → is_hyphened (guard_word guard) ≡ false
plain_guard Semaphores = refl
plain_guard Hoare = refl
plain_guard Mesa = refl

plain_kind : (plan : Plan) → is_hyphened (spelling_of plan).kind ≡ false
plain_kind (Philosophers n r w) = refl
plain_kind (Buffer n r k t w) = refl
plain_kind (Readers n k r) = refl
plain_kind (Coaster n r) = refl
plain_kind (Ring n r) = refl

plain_last : (plan : Plan) → list_any is_hyphened (spelling_of plan).last ≡ false
plain_last (Philosophers n r w) = ap (λ b. b || false) (plain_way w)
plain_last (Buffer n r k t w) = ap (λ b. b || false) (plain_guard w)
plain_last (Readers n k r) = refl
plain_last (Coaster n r) = refl
plain_last (Ring n r) = refl

plain_numbers : (ws : List Text) (ns : List ℕ) (last : List Text) → AreNumbers ws ns → list_any is_hyphened last ≡ false → list_any is_hyphened (ws ++ last) ≡ false
plain_numbers [] [] last are plain = plain
plain_numbers [] (n ∷ ns) last are plain = absurd are
plain_numbers (w ∷ ws) [] last are plain = absurd are
plain_numbers (w ∷ ws) (n ∷ ns) last are plain = or_from _ _ (plain_digits w n are.0) (plain_numbers ws ns last are.1 plain)

plain_plan : (words : List Text) (plan : Plan) → Describes words plan → list_any is_hyphened words ≡ false
plain_plan words plan d =
    ap (list_any is_hyphened) d.written ∙ or_from _ _ (plain_kind plan) (plain_numbers d.numbers (spelling_of plan).sizes (spelling_of plan).last d.values (plain_last plan))

abbrev count : Plan → ℕ
count plan = length (spelling_of plan).sizes + length (spelling_of plan).last

count-low : (plan : Plan) → 2 ≤ count plan
count-low (Philosophers n r w) = omega arith
count-low (Buffer n r k t w) = omega arith
count-low (Readers n k r) = omega arith
count-low (Coaster n r) = omega arith
count-low (Ring n r) = omega arith

count-high : (plan : Plan) → count plan ≤ 5
count-high (Philosophers n r w) = omega arith
count-high (Buffer n r k t w) = omega arith
count-high (Readers n k r) = omega arith
count-high (Coaster n r) = omega arith
count-high (Ring n r) = omega arith

words-count : (words : List Text) (plan : Plan) → Describes words plan → length words ≡ suc (count plan)
words-count words plan d =
    ap length d.written ∙ ap suc (length-append d.numbers (spelling_of plan).last ∙ ap (λ n. n + length (spelling_of plan).last) (are-length d.numbers (spelling_of plan).sizes d.values))

-- ---- plans, both ways

pub plan_plain : (words : List (String Global)) (hyphens : Bool) → hyphens ≡ list_any (λ word. is_hyphened (string_bytes word)) words → hyphens ≡ true → SpellsNoPlan (map string_bytes words)
plan_plain words hyphens is is_true plan spelled = plain_words words hyphens is is_true (plain_plan (map string_bytes words) plan spelled.described)

pub no_plan : (words : List Text) → ¬ (fault_of make_app words ≡ []) → SpellsNoPlan words
no_plan [] fault plan spelled =
    let counted = words-count [] plan spelled.described in absurd (omega (arith, count-low plan))
no_plan (k ∷ []) fault plan spelled =
    let counted = words-count (k ∷ []) plan spelled.described in absurd (omega (arith, count-low plan))
no_plan (k ∷ v ∷ ws) fault plan spelled =
    let counted = words-count (k ∷ v ∷ ws) plan spelled.described in
    fault (no_fault k v ws (plain_plan (k ∷ v ∷ ws) plan spelled.described) (omega (arith, count-low plan)) (omega (arith, count-high plan)))

-- the kind and the words behind it are found
pub plan_found : (words : List Text) (m : ArgMatches) (o : Option (Bor Text)) (kind : Bor Text) (p : Option (Bor (List (Bor Text)))) (sizes : Bor (List (Bor Text))) (r : Option Plan)
    → list_any is_hyphened words ≡ false → (fault_of make_app words ≡ []) × (rows_of (found_of m) ≡ matches_of make_app words)
    → option_map (λ s. s.now) o ≡ first_value (found_of m) (codes "kind") → UnwrapsOrElse o (λ d. d.now ≡ []) kind
    → option_map (λ s. map (λ v. v.now) s.now) p ≡ option_map raw_values (matched_of (found_of m) (codes "sizes")) → UnwrapsOrElse p (λ d. d.now ≡ []) sizes
    → MatchOption r (SpellsNoPlan (kind.now ∷ texts sizes.now)) (λ plan. SpellsPlan (kind.now ∷ texts sizes.now) plan)
    → MatchOption r (SpellsNoPlan words) (λ plan. SpellsPlan words plan)
plan_found [] m o kind p sizes r plain found first is others are read = absurd (none_given found.0)
plan_found (k ∷ []) m o kind p sizes r plain found first is others are read = absurd (too_few k (or_parts (is_hyphened k) false plain).0 found.0)
plan_found (k ∷ v ∷ ws) m o kind p sizes r plain found first is others are read =
    let rows = found.1 ∙ rows_are k v ws plain in
    let first_is : option_map (λ s. s.now) o ≡ Some k = first ∙ first_value-rows (found_of m) (codes "kind") ∙ ap (first_of (codes "kind")) rows in
    let others_are : option_map (λ s. map (λ v. v.now) s.now) p ≡ Some (v ∷ ws) = others ∙ raw_values-rows (found_of m) (codes "sizes") ∙ ap (all_of (codes "sizes")) rows in
    let words : kind.now ∷ texts sizes.now ≡ k ∷ v ∷ ws = ap₂ (λ (a : Text) (b : List Text). a ∷ b) (text_is o k kind first_is is) (texts_are p (v ∷ ws) sizes others_are are) in
    let P : List Text → Type 0 = λ all. MatchOption r (SpellsNoPlan all) (λ plan. SpellsPlan all plan) in
    subst P words read
