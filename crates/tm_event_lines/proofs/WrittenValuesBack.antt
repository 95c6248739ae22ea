-- Names and numbers of an event are read back from its words.
use Rattle.std.proofs.Common.{◌≡◌, ◌≢◌, ℕ, zero, suc, ◌+◌, ◌^◌, ◌<◌, ◌≤◌, ℤ, pos, ◌≤ℤ◌, int_le, nat_abs, true, false, List, [], ◌∷◌, ◌++◌, codes, length, slice_get, Some, option_map, option_and_then, refl, sym, ap, ◌∙◌, subst, arith, rules, ◌*◌, ◌-◌}
use Rattle.std.specs.Fmt.{decimal, signed_decimal}
use Rattle.std.specs.List.{list_all}
use Rattle.std.specs.Str.{all_ascii_digits, bytes_eq}
use Rattle.std.proofs.lemmas.Bool.{and_from, cond-false, false_from_ne_true, le-leb}
use Rattle.std.proofs.lemmas.List.Folds.{list_all-append}
use Rattle.std.proofs.lemmas.Fmt.{digits_decimal}
use Rattle.std.proofs.lemmas.Int.{ints}
use Rattle.std.proofs.lemmas.Str.Parse.{IsNumeralModel, numerals_by_fold}
use Rattle.std.proofs.lemmas.Slice.Eq.{bytes_eq-Decides}
use Rattle.tm_base.specs.Names.{IsName, is_digit}
use Rattle.tm_lines.specs.declared.limits.TheConstants.{GREATEST_NUMBER, LEAST_NUMBER}
use Rattle.tm_text.specs.declared.exercises.Declaration.{Declaration}
use Rattle.tm_text.specs.Exercises.{ExerciseView, IsWellFormed, name_at, name_of, own_of, thread_of}
use Rattle.tm_text.specs.Texts.{number_in}
use Rattle.tm_text.proofs.JoinedWords.{Solid, is_graph}
use Rattle.tm_text.proofs.NamedNumbers as named
use Rattle.tm_text.proofs.Owns.{own_of-found}
use Rattle.tm_text.proofs.WrittenValues as written
use Rattle.tm_timeline.specs.Rows.{IsProgramThread, thread_name}
use Rattle.tm_timeline.specs.TraceableEvents.{IsCounted}
use Rattle.tm_event_lines.specs.EventTexts.{IsLong}
use Rattle.tm_event_lines.specs.EventWords.{has_point}
use Rattle.tm_event_lines.specs.SaidWords.{condition_of, counted_of, thread_at, thread_in, thread_named, value_of}
use Rattle.tm_event_lines.proofs.NameLemmas.{object_at}
use Rattle.tm_event_lines.proofs.WrittenEvents.{pointed}
use Rattle.tm_event_lines.proofs.WrittenParts.{name_pointless}

-- numbers
pub counted_small : (n : ℕ) → IsCounted n → n < 2 ^ 64
counted_small n h = let last = h.last in omega arith

pub counted_back : (n : ℕ) → IsCounted n → counted_of (decimal n) ≡ Some n
counted_back n h =
    let most = le-leb n 9223372036854775807 h.last in
    ap (option_map nat_abs) (written.in_range (pos 1) GREATEST_NUMBER (pos n) (refl, most) (le-leb 1 n h.first, most))

pub condition_back : (n : ℕ) → n < 16 → condition_of (decimal n) ≡ Some n
condition_back n h =
    let small : n ≤ 9223372036854775807 = omega arith in
    let most : n ≤ 15 = omega arith in
    let none : 0 ≤ n = omega arith in
    ap (option_map nat_abs) (written.in_range (pos 0) (pos 15) (pos n) (refl, le-leb n 9223372036854775807 small) (le-leb 0 n none, le-leb n 15 most))

passes : (a b : ℤ) → a ≤ℤ b → int_le a b ≡ true
passes a b h = grind (arith, ints)

pub long_value : (k : ℤ) → IsLong k → written.IsLong k
long_value k h = (passes LEAST_NUMBER k h.least, passes k GREATEST_NUMBER h.greatest)

pub value_back : (k : ℤ) → IsLong k → value_of (signed_decimal k) ≡ Some k
value_back k h = let long = long_value k h in written.in_range LEAST_NUMBER GREATEST_NUMBER k long long

-- objects
pub object_back : (x : ExerciseView) → IsWellFormed x → (o : ℕ) (d : Declaration) → slice_get x.objects o ≡ Some d → number_in 0 x.objects d.name ≡ Some o
object_back x formed o d at = let zeroth : 0 + o ≡ o = omega arith in named.number_back 0 x.objects formed.once o d at ∙ ap Some zeroth

-- a name that is one word, has no point, and is found
pub record IsFound (name : List ℕ) : Type 0 where
  pub solid : Solid name
  pub pointless : has_point name ≡ false

found_name : (name : List ℕ) → IsName name → IsFound name
found_name name h = record { solid = written.name_solid name h; pointless = name_pointless name h }

pub object_found : (x : ExerciseView) → IsWellFormed x → (o : ℕ) → o < length x.objects → IsFound (name_of x.objects o) × (number_in 0 x.objects (name_of x.objects o) ≡ Some o)
object_found x formed o h =
    let at = object_at x.objects o h in
    let is : name_of x.objects o ≡ at.0.name = ap name_at at.1 in
    (subst IsFound (sym is) (found_name at.0.name (formed.names o at.0 at.1).0), ap (number_in 0 x.objects) is ∙ object_back x formed o at.0 at.1)

-- threads
pub program_thread : (x : ExerciseView) → IsWellFormed x → (t : ℕ) → IsProgramThread x (suc t)
    → IsFound (thread_name x (suc t)) × (thread_in x.objects (thread_name x (suc t)) ≡ Some (suc t)) × (thread_name x (suc t) ≢ codes "main")
program_thread x formed t known =
    let own = own_of x.objects (suc t) in
    let at = own_of-found x formed (suc t) known.program known.known in
    let names = formed.names own at.0 at.1 in
    let is : thread_name x (suc t) ≡ at.0.name = ap name_at at.1 in
    let number : number_in 0 x.objects (thread_name x (suc t)) ≡ Some own = ap (number_in 0 x.objects) is ∙ object_back x formed own at.0 at.1 in (
      subst IsFound (sym is) (found_name at.0.name names.0),
      ap (option_and_then (thread_at x.objects)) number ∙ ap (option_and_then thread_of) at.1 ∙ at.2,
      λ e. names.1 (sym is ∙ e),
    )

pub granted_back : (x : ExerciseView) → IsWellFormed x → (t : ℕ) → IsProgramThread x t → IsFound (thread_name x t) × (thread_in x.objects (thread_name x t) ≡ Some t)
granted_back x formed zero known = absurd (let first = known.program in omega arith)
granted_back x formed (suc t) known = let found = program_thread x formed t known in (found.0, found.1)

pub thread_back : (x : ExerciseView) → IsWellFormed x → (t : ℕ) → t ≤ length x.programs → IsFound (thread_name x t) × (thread_named x.objects (thread_name x t) ≡ Some t)
thread_back x formed zero h = (record { solid = record { some = omega arith; graph = refl }; pointless = refl }, refl)
thread_back x formed (suc t) h =
    let found = program_thread x formed t (record { program = omega arith; known = h }) in
    let name = thread_name x (suc t) in
    (found.0, cond-false (bytes_eq name (codes "main")) (Some 0) (thread_in x.objects name) (false_from_ne_true (bytes_eq name (codes "main")) (λ e. found.2 ((bytes_eq-Decides name (codes "main")).0 e))) ∙ found.1)

-- words
pub pointed_solid : (name : List ℕ) (n : ℕ) → Solid name → n < 2 ^ 64 → Solid (pointed name n)
pointed_solid name n solid h =
    let digits = written.decimal_solid n h in
    record {
      some = longer name (46 ∷ decimal n) solid.some;
      graph = list_all-append is_graph name (46 ∷ decimal n) ∙ and_from (list_all is_graph name) (list_all is_graph (46 ∷ decimal n)) solid.graph digits.graph;
    }
  where
    longer : (a b : List ℕ) → 0 < length a → 0 < length (a ++ b)
    longer [] b h = absurd (omega arith)
    longer (c ∷ a) b h = omega arith

-- digits
abbrev read_on : ℕ → List ℕ → ℕ
read_on n [] = n
read_on n (c ∷ cs) = read_on (10 * n + (c - 48)) cs

own : IsNumeralModel (λ ds. all_ascii_digits ds ≡ true) (read_on 0)
own = numerals_by_fold _ (search rules) read_on (search rules)

pub decimal_digits : (n : ℕ) → n < 2 ^ 64 → list_all is_digit (decimal n) ≡ true
decimal_digits n h = digits_decimal own n h
