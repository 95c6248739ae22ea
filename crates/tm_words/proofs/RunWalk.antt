-- What `clap` makes of the words of `run`: their options with values, each at most once.
use Rattle.std.proofs.Common.{◌≡◌, ◌+◌, ◌≤◌, ◌&&◌, ◌||◌, Bool, true, false, List, [], ◌∷◌, ◌++◌, length, codes, if◌then◌else◌, Option, Some, None, inl, inr, refl, sym, ap, ap₂, subst, ◌∙◌, arith, append_assoc, append-nil, length-append}
use Rattle.std.proofs.lemmas.Bool.{and_parts}
use Rattle.std.specs.List.{list_all}
use Rattle.clap.specs.Kinds.{Kinds, or_else}
use Rattle.clap.specs.Faults.{default_fault, fault_of, given_default_fault, turn_fault, use_fault}
use Rattle.clap.specs.Simple.{App, built, filled, matches_of}
use Rattle.clap.specs.Walk.{Row, Rule, Text, Walk, at_row, finished, first_of, has_row, idle, more_values, option, used, walked, with_default}
use Rattle.clap.specs.declared.builder.value_parser.Reading.TheVariants.{AsWritten}
use Rattle.clap.specs.declared.error.kind.ErrorKind.TheVariants.{ArgumentConflict, InvalidValue, UnknownArgument}
use Rattle.clap.specs.declared.parser.matches.ValueSource.TheVariants.{CommandLine}
use Rattle.clap.proofs.OnLiterals.{clap_on_literals}
use Rattle.tm_words.specs.CommandLines.{is_hyphened, is_readable, option_rule, run_app}
use Rattle.tm_words.proofs.Walks.{Finds, contradicts, faultless-step, faults, faulty, finds-step, or_else-nil, or_else-none, plain-turn, plain-walked, stand}
use Rattle.tm_words.proofs.Choices.{AreOnce, AreRead, Choice, Form, IsRead, Key, chosen, first, form, joined, the_events, the_schedule, values_of, word}

abbrev app : App
app = built run_app

abbrev pub id : Key → Text
id the_schedule = codes "schedule"
id the_events = codes "events"

abbrev rule : Key → Rule
rule key = filled (option_rule (id key))

-- ---- rows, one for each option

abbrev row : Key → Text → Row
row key value = record { id = id key; values = value ∷ []; count = None; source = Some CommandLine; reading = AsWritten }

abbrev pub rows_for : List Choice → List Row
rows_for [] = []
rows_for (chosen key value ∷ cs) = row key value ∷ rows_for cs

rows-more : (cs : List Choice) (key : Key) (value : Text) → rows_for (cs ++ chosen key value ∷ []) ≡ rows_for cs ++ row key value ∷ []
rows-more [] key value = refl
rows-more (chosen k v ∷ cs) key value = ap (λ rs. row k v ∷ rs) (rows-more cs key value)

-- an option without a value has no row, and one with a value has one
absent : (key : Key) (cs : List Choice) → length (values_of key cs) ≤ 0 → has_row (id key) (rows_for cs) ≡ false
absent key [] few = refl
absent the_schedule (chosen the_schedule v ∷ cs) few = absurd (omega arith)
absent the_schedule (chosen the_events v ∷ cs) few = absent the_schedule cs few
absent the_events (chosen the_schedule v ∷ cs) few = absent the_events cs few
absent the_events (chosen the_events v ∷ cs) few = absurd (omega arith)

none-there : (key : Key) (cs : List Choice) → has_row (id key) (rows_for cs) ≡ false → length (values_of key cs) ≤ 0
none-there key [] none = omega arith
none-there the_schedule (chosen the_schedule v ∷ cs) none = absurd (let h : true ≡ false = none in cc)
none-there the_schedule (chosen the_events v ∷ cs) none = none-there the_schedule cs none
none-there the_events (chosen the_schedule v ∷ cs) none = none-there the_events cs none
none-there the_events (chosen the_events v ∷ cs) none = absurd (let h : true ≡ false = none in cc)

at-none : (key : Key) (cs : List Choice) (change : Row → List Row) (missing : List Row) → has_row (id key) (rows_for cs) ≡ false → at_row (id key) change missing (rows_for cs) ≡ rows_for cs ++ missing
at-none key [] change missing none = refl
at-none the_schedule (chosen the_schedule v ∷ cs) change missing none = absurd (let h : true ≡ false = none in cc)
at-none the_schedule (chosen the_events v ∷ cs) change missing none = ap (λ rs. row the_events v ∷ rs) (at-none the_schedule cs change missing none)
at-none the_events (chosen the_schedule v ∷ cs) change missing none = ap (λ rs. row the_schedule v ∷ rs) (at-none the_events cs change missing none)
at-none the_events (chosen the_events v ∷ cs) change missing none = absurd (let h : true ≡ false = none in cc)

-- the rows with one more value of an option, which is the first where none is there
abbrev added : Key → Text → List Row → List Row
added key v rows = at_row (id key) (more_values CommandLine (v ∷ [])) (row key v ∷ []) rows

-- the use of an option that has no row yet
used-new : (key : Key) (v : Text) (cs : List Choice) → has_row (id key) (rows_for cs) ≡ false → used (rule key) (v ∷ []) (rows_for cs) ≡ rows_for (cs ++ chosen key v ∷ [])
used-new the_schedule v cs none =
    ap (added the_schedule v) (at-none the_schedule cs (λ _. []) [] none ∙ append-nil (rows_for cs))
    ∙ at-none the_schedule cs (more_values CommandLine (v ∷ [])) (row the_schedule v ∷ []) none ∙ sym (rows-more cs the_schedule v)
used-new the_events v cs none =
    ap (added the_events v) (at-none the_events cs (λ _. []) [] none ∙ append-nil (rows_for cs))
    ∙ at-none the_events cs (more_values CommandLine (v ∷ [])) (row the_events v ∷ []) none ∙ sym (rows-more cs the_events v)

-- the only fault of a use is that the option has a row already
abbrev second : Bool → Kinds
second again = or_else (if again && true then ArgumentConflict ∷ [] else []) []

use-fault : (key : Key) (v : Text) (rows : List Row) → use_fault false (rule key) (v ∷ []) rows ≡ second (has_row (id key) rows)
use-fault the_schedule v rows = refl
use-fault the_events v rows = refl

first-use : (key : Key) (v : Text) (rows : List Row) → has_row (id key) rows ≡ false → use_fault false (rule key) (v ∷ []) rows ≡ []
first-use key v rows none = use-fault key v rows ∙ ap second none

no-second : (key : Key) (v : Text) (rows : List Row) → use_fault false (rule key) (v ∷ []) rows ≡ [] → has_row (id key) rows ≡ false
no-second key v rows none = by (has_row (id key) rows) (sym (use-fault key v rows) ∙ none)
  where
    by : (again : Bool) → second again ≡ [] → again ≡ false
    by true e = absurd (let h : ArgumentConflict ∷ [] ≡ [] = e in cc)
    by false e = refl

-- ---- where the walk stands: these options are used, and one may be left to use

abbrev pending : Option Choice → Option (Text × List Text)
pending None = None
pending (Some (chosen key v)) = Some (id key, v ∷ [])

abbrev rest : List Row → Option Choice → Walk
rest rows p = stand (record { rows = rows; pending = pending p; skip = 0 }) idle 1

-- an option waits for its value
abbrev asked : List Row → Key → Walk
asked rows key = stand (record { rows = rows; pending = Some (id key, []); skip = 0 }) (option (id key)) 1

abbrev prior : List Choice → Option Choice → List Choice
prior cs None = cs
prior cs (Some c) = cs ++ c ∷ []

abbrev after : List Row → Option Choice → List Row
after rows None = rows
after rows (Some (chosen key v)) = used (rule key) (v ∷ []) rows

abbrev left_fault : List Row → Option Choice → Kinds
left_fault rows None = []
left_fault rows (Some (chosen key v)) = use_fault false (rule key) (v ∷ []) rows

after-is : (cs : List Choice) (p : Option Choice) → left_fault (rows_for cs) p ≡ [] → after (rows_for cs) p ≡ rows_for (prior cs p)
after-is cs None none = refl
after-is cs (Some (chosen key v)) none = used-new key v cs (no-second key v (rows_for cs) none)

-- an option alone
option-walked : (rows : List Row) (p : Option Choice) (key : Key) → walked app.top.rules [] (rest rows p) (word key) ≡ asked (after rows p) key
unfolding clap_on_literals
option-walked rows None the_schedule = refl
option-walked rows None the_events = refl
option-walked rows (Some (chosen the_schedule v)) the_schedule = refl
option-walked rows (Some (chosen the_schedule v)) the_events = refl
option-walked rows (Some (chosen the_events v)) the_schedule = refl
option-walked rows (Some (chosen the_events v)) the_events = refl

option-turn : (rows : List Row) (p : Option Choice) (key : Key) → turn_fault app.top [] (rest rows p) (word key) ≡ left_fault rows p
unfolding clap_on_literals
option-turn rows None the_schedule = refl
option-turn rows None the_events = refl
option-turn rows (Some (chosen the_schedule v)) the_schedule = or_else-nil (left_fault rows (Some (chosen the_schedule v)))
option-turn rows (Some (chosen the_schedule v)) the_events = or_else-nil (left_fault rows (Some (chosen the_schedule v)))
option-turn rows (Some (chosen the_events v)) the_schedule = or_else-nil (left_fault rows (Some (chosen the_events v)))
option-turn rows (Some (chosen the_events v)) the_events = or_else-nil (left_fault rows (Some (chosen the_events v)))

-- an option with its value in one word
joined-walked : (rows : List Row) (p : Option Choice) (key : Key) (v : Text) → walked app.top.rules [] (rest rows p) (joined key v) ≡ rest (used (rule key) (v ∷ []) (after rows p)) None
unfolding clap_on_literals
joined-walked rows None the_schedule v = refl
joined-walked rows None the_events v = refl
joined-walked rows (Some (chosen the_schedule u)) the_schedule v = refl
joined-walked rows (Some (chosen the_schedule u)) the_events v = refl
joined-walked rows (Some (chosen the_events u)) the_schedule v = refl
joined-walked rows (Some (chosen the_events u)) the_events v = refl

abbrev both_faults : List Row → Option Choice → Key → Text → Kinds
both_faults rows p key v = or_else (left_fault rows p) (use_fault false (rule key) (v ∷ []) (after rows p))

joined-turn : (rows : List Row) (p : Option Choice) (key : Key) (v : Text) → turn_fault app.top [] (rest rows p) (joined key v) ≡ both_faults rows p key v
unfolding clap_on_literals
joined-turn rows None the_schedule v = or_else-nil (both_faults rows None the_schedule v)
joined-turn rows None the_events v = or_else-nil (both_faults rows None the_events v)
joined-turn rows (Some (chosen the_schedule u)) the_schedule v = or_else-nil (both_faults rows (Some (chosen the_schedule u)) the_schedule v)
joined-turn rows (Some (chosen the_schedule u)) the_events v = or_else-nil (both_faults rows (Some (chosen the_schedule u)) the_events v)
joined-turn rows (Some (chosen the_events u)) the_schedule v = or_else-nil (both_faults rows (Some (chosen the_events u)) the_schedule v)
joined-turn rows (Some (chosen the_events u)) the_events v = or_else-nil (both_faults rows (Some (chosen the_events u)) the_events v)

-- a value of the option that waits
value-walked : (rows : List Row) (key : Key) (v : Text) → is_hyphened v ≡ false → walked app.top.rules [] (asked rows key) v ≡ rest rows (Some (chosen key v))
unfolding clap_on_literals
value-walked rows the_schedule v plain = plain-walked app.top.rules (asked rows the_schedule).held (option (id the_schedule)) 1 v plain
value-walked rows the_events v plain = plain-walked app.top.rules (asked rows the_events).held (option (id the_events)) 1 v plain

value-turn : (rows : List Row) (key : Key) (v : Text) → is_hyphened v ≡ false → turn_fault app.top [] (asked rows key) v ≡ []
unfolding clap_on_literals
value-turn rows the_schedule v plain = plain-turn app.top (asked rows the_schedule).held (option (id the_schedule)) 1 v plain
value-turn rows the_events v plain = plain-turn app.top (asked rows the_events).held (option (id the_events)) 1 v plain

-- words that are refused: one that follows no option, and an option where a value is due
stray-turn : (rows : List Row) (p : Option Choice) (w : Text) → is_hyphened w ≡ false → turn_fault app.top [] (rest rows p) w ≡ UnknownArgument ∷ []
unfolding clap_on_literals
stray-turn rows p w plain = plain-turn app.top (rest rows p).held idle 1 w plain

early-option : (rows : List Row) (key next : Key) → turn_fault app.top [] (asked rows key) (word next) ≡ InvalidValue ∷ []
unfolding clap_on_literals
early-option rows the_schedule the_schedule = refl
early-option rows the_schedule the_events = refl
early-option rows the_events the_schedule = refl
early-option rows the_events the_events = refl

early-joined : (rows : List Row) (key next : Key) (v : Text) → turn_fault app.top [] (asked rows key) (joined next v) ≡ InvalidValue ∷ []
unfolding clap_on_literals
early-joined rows the_schedule the_schedule v = refl
early-joined rows the_schedule the_events v = refl
early-joined rows the_events the_schedule v = refl
early-joined rows the_events the_events v = refl

-- ---- at the end no default is set

always : (there : Bool) (faults : Kinds) → (if there || true then [] else faults) ≡ []
always true faults = refl
always false faults = refl

default-none : (key : Key) (rows : List Row) → default_fault rows (rule key) ≡ []
default-none the_schedule rows = always (has_row (id the_schedule) rows) (given_default_fault (rule the_schedule) [])
default-none the_events rows = always (has_row (id the_events) rows) (given_default_fault (rule the_events) [])

either : (there : Bool) (rows : List Row) → (if there then rows else rows) ≡ rows
either true rows = refl
either false rows = refl

default-kept : (key : Key) (rows : List Row) → with_default rows (rule key) ≡ rows
default-kept the_schedule rows = either (has_row (id the_schedule) rows) rows
default-kept the_events rows = either (has_row (id the_events) rows) rows

all-kept : (rows : List Row) → with_default (with_default rows (rule the_schedule)) (rule the_events) ≡ rows
all-kept rows = ap (λ rs. with_default rs (rule the_events)) (default-kept the_schedule rows) ∙ default-kept the_events rows

no-defaults : (rows : List Row) → or_else (default_fault rows (rule the_schedule)) (or_else (default_fault (with_default rows (rule the_schedule)) (rule the_events)) []) ≡ []
no-defaults rows =
    ap (λ f. or_else f (or_else (default_fault (with_default rows (rule the_schedule)) (rule the_events)) [])) (default-none the_schedule rows)
    ∙ ap (λ f. or_else f []) (default-none the_events (with_default rows (rule the_schedule)))

end-by : (left defaults : Kinds) → defaults ≡ [] → or_else left (or_else defaults []) ≡ left
end-by left defaults none = ap (λ d. or_else left (or_else d [])) none ∙ or_else-nil left

end-fault : (rows : List Row) (p : Option Choice) → faults app (rest rows p) [] ≡ left_fault rows p
unfolding clap_on_literals
end-fault rows None = end-by [] _ (no-defaults rows)
end-fault rows (Some (chosen the_schedule v)) = end-by (left_fault rows (Some (chosen the_schedule v))) _ (no-defaults (after rows (Some (chosen the_schedule v))))
end-fault rows (Some (chosen the_events v)) = end-by (left_fault rows (Some (chosen the_events v))) _ (no-defaults (after rows (Some (chosen the_events v))))

end-rows : (rows : List Row) (p : Option Choice) → finished app.top.rules (rest rows p).held ≡ after rows p
end-rows rows None = all-kept rows
end-rows rows (Some (chosen the_schedule v)) = all-kept (after rows (Some (chosen the_schedule v)))
end-rows rows (Some (chosen the_events v)) = all-kept (after rows (Some (chosen the_events v)))

-- an option without its value
asked-end : (rows : List Row) (key : Key) → faults app (asked rows key) [] ≡ InvalidValue ∷ []
unfolding clap_on_literals
asked-end rows the_schedule = refl
asked-end rows the_events = refl

-- ---- how many values an option has

values-append : (key : Key) (a b : List Choice) → values_of key (a ++ b) ≡ values_of key a ++ values_of key b
values-append key [] b = refl
values-append the_schedule (chosen the_schedule v ∷ a) b = ap (λ vs. v ∷ vs) (values-append the_schedule a b)
values-append the_schedule (chosen the_events v ∷ a) b = values-append the_schedule a b
values-append the_events (chosen the_schedule v ∷ a) b = values-append the_events a b
values-append the_events (chosen the_events v ∷ a) b = ap (λ vs. v ∷ vs) (values-append the_events a b)

count-append : (key : Key) (a b : List Choice) → length (values_of key (a ++ b)) ≡ length (values_of key a) + length (values_of key b)
count-append key a b = ap length (values-append key a b) ∙ length-append (values_of key a) (values_of key b)

-- where an option is once, it has no value before
counted : (key : Key) (cs : List Choice) (v : Text) (more : List Choice) → length (values_of key (cs ++ chosen key v ∷ more)) ≤ 1 → length (values_of key cs) ≤ 0
counted the_schedule cs v more few = omega (arith, count-append the_schedule cs (chosen the_schedule v ∷ more))
counted the_events cs v more few = omega (arith, count-append the_events cs (chosen the_events v ∷ more))

prior-once : (cs : List Choice) (p : Option Choice) → AreOnce cs → left_fault (rows_for cs) p ≡ [] → AreOnce (prior cs p)
prior-once cs None once none = once
prior-once cs (Some (chosen key v)) once none = by key (none-there key cs (no-second key v (rows_for cs) none))
  where
    by : (key : Key) → length (values_of key cs) ≤ 0 → AreOnce (cs ++ chosen key v ∷ [])
    by the_schedule few the_schedule = omega (arith, count-append the_schedule cs (chosen the_schedule v ∷ []))
    by the_schedule few the_events = omega (arith, count-append the_events cs (chosen the_schedule v ∷ []), once the_events)
    by the_events few the_schedule = omega (arith, count-append the_schedule cs (chosen the_events v ∷ []), once the_schedule)
    by the_events few the_events = omega (arith, count-append the_events cs (chosen the_events v ∷ []))

-- ---- options with values, each once, are taken, and leave their rows

further : (before : List Choice) (c : Choice) (cs : List Choice) → AreOnce (before ++ c ∷ cs) → AreOnce ((before ++ c ∷ []) ++ cs)
further before c cs once key = subst (λ (l : List Choice). length (values_of key l) ≤ 1) (sym (append_assoc before (c ∷ []) cs)) (once key)

abbrev Leads : List Text → List Choice → List Choice → Option Choice → Type 0
Leads words cs before p = Finds app (rest (rows_for before) p) words (rows_for (prior before p ++ cs))

abbrev Leading : List Text → List Choice → Type 0
Leading words cs = (before : List Choice) (p : Option Choice) → left_fault (rows_for before) p ≡ [] → AreOnce (prior before p ++ cs) → Leads words cs before p

leads-nil : Leading [] []
leads-nil before p none once = record {
  fault = end-fault (rows_for before) p ∙ none;
  rows_are = end-rows (rows_for before) p ∙ after-is before p none ∙ ap rows_for (sym (append-nil (prior before p)));
}

leads-more : (words : List Text) (key : Key) (v : Text) (back : List Text) (cs : List Choice) → IsRead words key v back → Leading back cs → Leading words (chosen key v ∷ cs)
leads-more words key v back cs (inl two) more before p none once =
    let all = prior before p in
    let fresh_use = first-use key v (rows_for all) (absent key all (counted key all v cs (once key))) in
    let found = more all (Some (chosen key v)) fresh_use (further all (chosen key v) cs once) in
    let same : rows_for ((all ++ chosen key v ∷ []) ++ cs) ≡ rows_for (all ++ chosen key v ∷ cs) = ap rows_for (append_assoc all (chosen key v ∷ []) cs) in
    let rows = rows_for (all ++ chosen key v ∷ cs) in
    let last : Finds app (rest (rows_for all) (Some (chosen key v))) back rows = subst (λ (rs : List Row). Finds app (rest (rows_for all) (Some (chosen key v))) back rs) same found in
    let value = finds-step app (asked (rows_for all) key) (rest (rows_for all) (Some (chosen key v))) v back rows (value-turn (rows_for all) key v two.1) (value-walked (rows_for all) key v two.1) last in
    let walked_to = option-walked (rows_for before) p key ∙ ap (λ rs. asked rs key) (after-is before p none) in
    let whole = finds-step app (rest (rows_for before) p) (asked (rows_for all) key) (word key) (v ∷ back) rows (option-turn (rows_for before) p key ∙ none) walked_to value in
    subst (λ (ws : List Text). Finds app (rest (rows_for before) p) ws rows) (sym two.0) whole
leads-more words key v back cs (inr one) more before p none once =
    let all = prior before p in
    let fresh = absent key all (counted key all v cs (once key)) in
    let next = all ++ chosen key v ∷ [] in
    let found = more next None refl (further all (chosen key v) cs once) in
    let same : rows_for (next ++ cs) ≡ rows_for (all ++ chosen key v ∷ cs) = ap rows_for (append_assoc all (chosen key v ∷ []) cs) in
    let rows = rows_for (all ++ chosen key v ∷ cs) in
    let last : Finds app (rest (rows_for next) None) back rows = subst (λ (rs : List Row). Finds app (rest (rows_for next) None) back rs) same found in
    let here = after-is before p none in
    let fault : both_faults (rows_for before) p key v ≡ [] = ap₂ (λ f rs. or_else f (use_fault false (rule key) (v ∷ []) rs)) none here ∙ first-use key v (rows_for all) fresh in
    let walked_to = joined-walked (rows_for before) p key v ∙ ap (λ rs. rest (used (rule key) (v ∷ []) rs) None) here ∙ ap (λ rs. rest rs None) (used-new key v all fresh) in
    let whole = finds-step app (rest (rows_for before) p) (rest (rows_for next) None) (joined key v) back rows (joined-turn (rows_for before) p key v ∙ fault) walked_to last in
    subst (λ (ws : List Text). Finds app (rest (rows_for before) p) ws rows) (sym one) whole

leads : (words : List Text) (cs : List Choice) → AreRead words cs → Leading words cs
leads words [] are = subst (λ (ws : List Text). Leading ws []) (sym are) leads-nil
leads words (chosen key v ∷ cs) are = leads-more words key v are.0 cs are.1 (leads are.0 cs are.2)

pub taken : (words : List Text) (cs : List Choice) → AreRead words cs → AreOnce cs → (fault_of run_app words ≡ []) × (matches_of run_app words ≡ rows_for cs)
taken words cs are once =
    let found = leads words cs are [] None refl once in
    (found.fault, found.rows_are)

-- ---- words that are taken are options with values, each once

record Reading (words : List Text) (before : List Choice) (p : Option Choice) : Type 0 where
  choices : List Choice
  read : AreRead words choices
  once : AreOnce (prior before p ++ choices)

together : (before : List Choice) (c : Choice) (cs : List Choice) → AreOnce ((before ++ c ∷ []) ++ cs) → AreOnce (before ++ c ∷ cs)
together before c cs once key = subst (λ (l : List Choice). length (values_of key l) ≤ 1) (append_assoc before (c ∷ []) cs) (once key)

abbrev Reads : List Text → Type 0
Reads words = (before : List Choice) (p : Option Choice) → AreOnce before → faults app (rest (rows_for before) p) words ≡ [] → Reading words before p

reads-nil : Reads []
reads-nil before p once none =
    let left = sym (end-fault (rows_for before) p) ∙ none in
    let all = prior-once before p once left in
    record {
      choices = [];
      read = refl;
      once = λ key. subst (λ (l : List Choice). length (values_of key l) ≤ 1) (sym (append-nil (prior before p))) (all key);
    }

reads-joined : (key : Key) (v : Text) (back : List Text) → Reads back → Reads (joined key v ∷ back)
reads-joined key v back more before p once none =
    let parts = faultless-step app (rest (rows_for before) p) (rest (used (rule key) (v ∷ []) (after (rows_for before) p)) None) (joined key v) back (both_faults (rows_for before) p key v) (joined-turn (rows_for before) p key v) (joined-walked (rows_for before) p key v) none in
    let uses = or_else-none (left_fault (rows_for before) p) (use_fault false (rule key) (v ∷ []) (after (rows_for before) p)) parts.0 in
    let all = prior before p in
    let here = after-is before p uses.0 in
    let fresh_use : use_fault false (rule key) (v ∷ []) (rows_for all) ≡ [] = subst (λ (rs : List Row). use_fault false (rule key) (v ∷ []) rs ≡ []) here uses.1 in
    let next = all ++ chosen key v ∷ [] in
    let to : used (rule key) (v ∷ []) (after (rows_for before) p) ≡ rows_for next = ap (used (rule key) (v ∷ [])) here ∙ used-new key v all (no-second key v (rows_for all) fresh_use) in
    let reading = more next None (prior-once all (Some (chosen key v)) (prior-once before p once uses.0) fresh_use) (subst (λ (rs : List Row). faults app (rest rs None) back ≡ []) to parts.1) in
    record {
      choices = chosen key v ∷ reading.choices;
      read = (back, inr refl, reading.read);
      once = together all (chosen key v) reading.choices reading.once;
    }

-- the option is met, and waits for its value
met : (key : Key) (back : List Text) (before : List Choice) (p : Option Choice) → faults app (rest (rows_for before) p) (word key ∷ back) ≡ [] → (left_fault (rows_for before) p ≡ []) × (faults app (asked (rows_for (prior before p)) key) back ≡ [])
met key back before p none =
    let parts = faultless-step app (rest (rows_for before) p) (asked (after (rows_for before) p) key) (word key) back (left_fault (rows_for before) p) (option-turn (rows_for before) p key) (option-walked (rows_for before) p key) none in
    (parts.0, subst (λ (rs : List Row). faults app (asked rs key) back ≡ []) (after-is before p parts.0) parts.1)

reads-two : (key : Key) (v : Text) (back : List Text) → is_hyphened v ≡ false → Reads back → Reads (word key ∷ v ∷ back)
reads-two key v back plain more before p once none =
    let parts = met key (v ∷ back) before p none in
    let all = prior before p in
    let last = faultless-step app (asked (rows_for all) key) (rest (rows_for all) (Some (chosen key v))) v back [] (value-turn (rows_for all) key v plain) (value-walked (rows_for all) key v plain) parts.1 in
    let reading = more all (Some (chosen key v)) (prior-once before p once parts.0) last.1 in
    record {
      choices = chosen key v ∷ reading.choices;
      read = (back, inl (refl, plain), reading.read);
      once = together all (chosen key v) reading.choices reading.once;
    }

reads-stray : (w : Text) (back : List Text) → is_hyphened w ≡ false → Reads (w ∷ back)
reads-stray w back plain before p once none = contradicts _ _ _ (faulty app (rest (rows_for before) p) w back none) (stray-turn (rows_for before) p w plain)

-- no value follows the option
reads-end : (key : Key) → Reads (word key ∷ [])
reads-end key before p once none = contradicts _ _ _ (met key [] before p none).1 (asked-end (rows_for (prior before p)) key)

reads-option : (key next : Key) (back : List Text) → Reads (word key ∷ word next ∷ back)
reads-option key next back before p once none =
    contradicts _ _ _ (faulty app (asked (rows_for (prior before p)) key) (word next) back (met key (word next ∷ back) before p none).1) (early-option (rows_for (prior before p)) key next)

reads-other : (key next : Key) (v : Text) (back : List Text) → Reads (word key ∷ joined next v ∷ back)
reads-other key next v back before p once none =
    contradicts _ _ _ (faulty app (asked (rows_for (prior before p)) key) (joined next v) back (met key (joined next v ∷ back) before p none).1) (early-joined (rows_for (prior before p)) key next v)

abbrev readable : List Text → Type 0
readable words = list_all is_readable words ≡ true

reads : (words : List Text) → readable words → Reads words
reads [] all = reads-nil
reads (w ∷ []) all = by (form w (and_parts (is_readable w) true all).0)
  where
    by : Form w → Reads (w ∷ [])
    by (inl plain) = reads-stray w [] plain
    by (inr (inl alone)) = subst (λ (t : Text). Reads (t ∷ [])) (sym alone.1) (reads-end alone.0)
    by (inr (inr both)) = subst (λ (t : Text). Reads (t ∷ [])) (sym both.2) (reads-joined both.0 both.1 [] reads-nil)
reads (w ∷ v ∷ back) all =
    let here = and_parts (is_readable w) (list_all is_readable (v ∷ back)) all in
    let there = and_parts (is_readable v) (list_all is_readable back) here.1 in
    by (form w here.0) (form v there.0) (reads (v ∷ back) here.1) (reads back there.1)
  where
    after_option : (key : Key) → Form v → Reads back → Reads (word key ∷ v ∷ back)
    after_option key (inl plain) more = reads-two key v back plain more
    after_option key (inr (inl alone)) more = subst (λ (t : Text). Reads (word key ∷ t ∷ back)) (sym alone.1) (reads-option key alone.0 back)
    after_option key (inr (inr both)) more = subst (λ (t : Text). Reads (word key ∷ t ∷ back)) (sym both.2) (reads-other key both.0 both.1 back)

    by : Form w → Form v → Reads (v ∷ back) → Reads back → Reads (w ∷ v ∷ back)
    by (inl plain) second next more = reads-stray w (v ∷ back) plain
    by (inr (inl alone)) second next more = subst (λ (t : Text). Reads (t ∷ v ∷ back)) (sym alone.1) (after_option alone.0 second more)
    by (inr (inr both)) second next more = subst (λ (t : Text). Reads (t ∷ v ∷ back)) (sym both.2) (reads-joined both.0 both.1 (v ∷ back) next)

pub read : (words : List Text) → readable words → fault_of run_app words ≡ [] → (cs : List Choice) × AreRead words cs × AreOnce cs
read words all none =
    let reading = reads words all [] None (λ key. omega arith) none in
    (reading.choices, reading.read, reading.once)

pub first-row : (key : Key) (cs : List Choice) → first_of (id key) (rows_for cs) ≡ first (values_of key cs)
first-row key [] = refl
first-row the_schedule (chosen the_schedule v ∷ cs) = refl
first-row the_schedule (chosen the_events v ∷ cs) = first-row the_schedule cs
first-row the_events (chosen the_schedule v ∷ cs) = first-row the_events cs
first-row the_events (chosen the_events v ∷ cs) = refl
