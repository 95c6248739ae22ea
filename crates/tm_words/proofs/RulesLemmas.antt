-- The rules of a run, from what `clap` finds in its words.
use Rattle.std.proofs.Common.{◌≡◌, true, false, Bool, List, map, string_bytes, String, [], Option, Some, None, MatchOption, codes, refl, sym, ap, subst₂, ◌∙◌}
use Rattle.std.proofs.lemmas.Bool.{false≢true}
use Rattle.std.proofs.lemmas.List.Folds.{list_all-map}
use Rattle.std.specs.List.{list_all}
use Rattle.std.specs.declared.alloc.Global.{Global}
use Rattle.clap.specs.Faults.{fault_of, is_simple_and_free}
use Rattle.clap.specs.Matches.{first_value, found_of}
use Rattle.clap.specs.Simple.{matches_of}
use Rattle.clap.specs.Walk.{Row, Text, first_of, rows_of}
use Rattle.clap.specs.declared.parser.matches.ArgMatches.{ArgMatches}
use Rattle.clap.proofs.WalkLemmas.{first_value-rows}
use Rattle.tm_base.specs.declared.rules.Rules.{Rules}
use Rattle.tm_words.specs.RunWords.{SpellsRules}
use Rattle.tm_words.specs.CommandLines.{is_readable, run_app}
use Rattle.tm_words.specs.SettingsSet.{AreSet}
use Rattle.tm_words.proofs.Choices.{AreOnce, AreRead, Choice, Key, all_readable, first, read_spelled, spelled_read, the_events, the_schedule, values_of}
use Rattle.tm_words.proofs.RunWalk.{first-row, id, read, taken}

pub run_simple : is_simple_and_free run_app ≡ true
run_simple = refl

pub unreadable : (words : List (String Global)) (b : Bool) → b ≡ list_all (λ word. is_readable (string_bytes word)) words → b ≡ false → (rules : Rules) → ¬ SpellsRules (map string_bytes words) rules
unreadable words b is is_false rules spelled =
    let cs = spelled_read (map string_bytes words) rules spelled in
    let is_true = all_readable (map string_bytes words) cs.0 cs.1 in
    false≢true (sym is_false ∙ is ∙ sym (list_all-map is_readable string_bytes words) ∙ is_true)

pub faulty_rules : (words : List Text) → ¬ (fault_of run_app words ≡ []) → (rules : Rules) → ¬ SpellsRules words rules
faulty_rules words fault rules spelled =
    let cs = spelled_read words rules spelled in
    fault (taken words cs.0 cs.1 cs.2).0

-- what was found, and what options with their values leave
record Found (words : List Text) (rows : List Row) (schedule events : Option Text) : Type 0 where
  all : list_all is_readable words ≡ true
  fault : fault_of run_app words ≡ []
  rows_are : rows ≡ matches_of run_app words
  schedule_is : schedule ≡ first_of (id the_schedule) rows
  events_are : events ≡ first_of (id the_events) rows

value_is : (words : List Text) (rows : List Row) (key : Key) (cs : List Choice) (value : Option Text) → AreRead words cs → AreOnce cs → rows ≡ matches_of run_app words → value ≡ first_of (id key) rows → value ≡ first (values_of key cs)
value_is words rows key cs value are once found is =
    is ∙ ap (first_of (id key)) (found ∙ (taken words cs are once).1) ∙ first-row key cs

rules_by_values : (words : List Text) (rows : List Row) (schedule events : Option Text) (r : Option Rules) → Found words rows schedule events
    → MatchOption r ((rules : Rules) → ¬ AreSet schedule events rules) (λ rules. AreSet schedule events rules)
    → MatchOption r ((rules : Rules) → ¬ SpellsRules words rules) (λ rules. SpellsRules words rules)
rules_by_values words rows schedule events None f none = λ rules spelled.
    let cs = spelled_read words rules spelled in
    let s = value_is words rows the_schedule cs.0 schedule cs.1 cs.2 f.rows_are f.schedule_is in
    let e = value_is words rows the_events cs.0 events cs.1 cs.2 f.rows_are f.events_are in
    none rules (subst₂ (λ (s e : Option Text). AreSet s e rules) (sym s) (sym e) cs.3)
rules_by_values words rows schedule events (Some rules) f set =
    let cs = read words f.all f.fault in
    let s = value_is words rows the_schedule cs.0 schedule cs.1 cs.2 f.rows_are f.schedule_is in
    let e = value_is words rows the_events cs.0 events cs.1 cs.2 f.rows_are f.events_are in
    read_spelled words cs.0 rules cs.1 cs.2 (subst₂ (λ (s e : Option Text). AreSet s e rules) s e set)

pub rules_found : (words : List (String Global)) (b : Bool) (m : ArgMatches) (schedule events : Option Text) (r : Option Rules)
    → b ≡ list_all (λ word. is_readable (string_bytes word)) words → b ≡ true
    → (fault_of run_app (map string_bytes words) ≡ []) × (rows_of (found_of m) ≡ matches_of run_app (map string_bytes words))
    → schedule ≡ first_value (found_of m) (codes "schedule") → events ≡ first_value (found_of m) (codes "events")
    → MatchOption r ((rules : Rules) → ¬ AreSet schedule events rules) (λ rules. AreSet schedule events rules)
    → MatchOption r ((rules : Rules) → ¬ SpellsRules (map string_bytes words) rules) (λ rules. SpellsRules (map string_bytes words) rules)
rules_found words b m schedule events r is is_true found s e set =
    rules_by_values (map string_bytes words) (rows_of (found_of m)) schedule events r (record {
      all = list_all-map is_readable string_bytes words ∙ sym is ∙ is_true;
      fault = found.0;
      rows_are = found.1;
      schedule_is = s ∙ first_value-rows (found_of m) (codes "schedule");
      events_are = e ∙ first_value-rows (found_of m) (codes "events");
    }) set
