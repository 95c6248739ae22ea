-- The words of `run` as options with the texts of their values.
use Rattle.std.proofs.Common.{◌≡◌, ◌==◌, ◌<◌, ◌≤◌, ◌||◌, ℕ, suc, Bool, true, false, not, eqb, List, [], ◌∷◌, ◌++◌, length, take, drop, get_or, codes, Option, Some, None, ◌⊎◌, inl, inr, ⊎_elim, refl, sym, ap, subst, ◌∙◌, arith, take-append-drop, true≢false}
use Rattle.std.proofs.lemmas.Bool.{and_from, false_from_ne_true, or_left}
use Rattle.std.proofs.lemmas.Bool.Decides.{Decides-eqb}
use Rattle.std.proofs.lemmas.Slice.Eq.{bytes_eq-Decides, slice_eq-Decides}
use Rattle.std.specs.Char.{digit_value}
use Rattle.std.specs.List.{list_all, starts_with}
use Rattle.clap.specs.Walk.{Text}
use Rattle.tm_base.specs.declared.rules.Rules.{Rules}
use Rattle.tm_base.specs.declared.rules.TheConstants.{USUAL_CALLS}
use Rattle.tm_words.specs.declared.settings.TheConstants.{USUAL_SCHEDULE}
use Rattle.tm_words.specs.Numbers.{IsNumber}
use Rattle.tm_words.specs.RunWords.{AreSettings, Begins, Events, IsAllowed, Schedule, Setting, SpellsRules, limits_of, option_word, schedules_of, setting_value}
use Rattle.tm_words.specs.CommandLines.{is_hyphened, is_readable}
use Rattle.tm_words.specs.SettingsSet.{AreSet, IsLimitSet, IsScheduleSet}
use Rattle.tm_words.proofs.SettingsSpelled.{begins, BeginsWith}

-- an option, and one with the text of its value
pub data Key : Type 0 where
  the_schedule : Key
  the_events : Key

pub data Choice : Type 0 where
  chosen : Key → Text → Choice

abbrev pub word : Key → Text
word the_schedule = codes "--schedule"
word the_events = codes "--events"

abbrev pub joined : Key → Text → Text
joined key value = word key ++ codes "=" ++ value

-- the words begin with an option and its value, in two words or in one
abbrev pub IsRead : List Text → Key → Text → List Text → Type 0
IsRead words key value back =
    ((words ≡ word key ∷ value ∷ back) × (is_hyphened value ≡ false)) ⊎ (words ≡ joined key value ∷ back)

-- the words are these options with their values
abbrev pub AreRead : List Text → List Choice → Type 0
AreRead words [] = words ≡ []
AreRead words (chosen key value ∷ cs) = (back : List Text) × IsRead words key value back × AreRead back cs

-- the values of an option
abbrev pub values_of : Key → List Choice → List Text
values_of key [] = []
values_of the_schedule (chosen the_schedule v ∷ cs) = v ∷ values_of the_schedule cs
values_of the_schedule (chosen the_events v ∷ cs) = values_of the_schedule cs
values_of the_events (chosen the_schedule v ∷ cs) = values_of the_events cs
values_of the_events (chosen the_events v ∷ cs) = v ∷ values_of the_events cs

abbrev pub first : List Text → Option Text
first [] = None
first (v ∷ vs) = Some v

-- no option has two values
abbrev pub AreOnce : List Choice → Type 0
AreOnce cs = (key : Key) → length (values_of key cs) ≤ 1

-- the choices are these settings
abbrev pub Mean : List Choice → List Setting → Type 0
Mean [] [] = Unit {0}
Mean (chosen the_schedule v ∷ cs) (Schedule n ∷ ss) = IsNumber v n × IsAllowed (Schedule n) × Mean cs ss
Mean (chosen the_events v ∷ cs) (Events n ∷ ss) = IsNumber v n × IsAllowed (Events n) × Mean cs ss
Mean cs ss = ⊥

-- ---- settings as options with values

pub plain_digits : (v : Text) (n : ℕ) → IsNumber v n → is_hyphened v ≡ false
plain_digits [] n is = refl
plain_digits (b ∷ bs) n is = plain_digit b is.0.1.0
  where
    plain_digit : (b : ℕ) → digit_value b < 10 → (b == 45) ≡ false
    plain_digit b low = false_from_ne_true (b == 45) (λ e. let is : b ≡ 45 = (Decides-eqb b 45).0 e in let P : ℕ → Type 0 = λ c. digit_value c < 10 in let h : 36 < 10 = subst P is low in absurd (omega arith))

read_setting : (words : List Text) (key : Key) (v : Text) (back : List Text) (n : ℕ) → BeginsWith words (word key) v back → IsNumber v n → IsRead words key v back
read_setting words key v back n (inl two) value = inl (two, plain_digits v n value)
read_setting words key v back n (inr one) value = inr one

pub read_settings : (words : List Text) (ss : List Setting) → AreSettings words ss → (cs : List Choice) × AreRead words cs × Mean cs ss
read_settings words [] are = ([], are, tt)
read_settings words (Schedule n ∷ ss) are =
    let more = read_settings are.0 ss are.2 in
    let s = are.1.spelled in
    (chosen the_schedule s.number ∷ more.0, (are.0, read_setting words the_schedule s.number are.0 n (begins words (Schedule n) are.0 are.1) s.value, more.1), (s.value, s.allowed, more.2))
read_settings words (Events n ∷ ss) are =
    let more = read_settings are.0 ss are.2 in
    let s = are.1.spelled in
    (chosen the_events s.number ∷ more.0, (are.0, read_setting words the_events s.number are.0 n (begins words (Events n) are.0 are.1) s.value, more.1), (s.value, s.allowed, more.2))

begin_setting : (words : List Text) (key : Key) (s : Setting) (v : Text) (back : List Text) → option_word s ≡ word key → IsRead words key v back → IsNumber v (setting_value s) → IsAllowed s → Begins words s back
begin_setting words key s v back same (inl two) value allowed = record {
  prefix = option_word s ∷ v ∷ [];
  parts = two.0 ∙ ap (λ w. w ∷ v ∷ back) (sym same);
  spelled = record { number = v; written = inl refl; value = value; allowed = allowed };
}
begin_setting words key s v back same (inr one) value allowed = record {
  prefix = (option_word s ++ codes "=" ++ v) ∷ [];
  parts = one ∙ ap (λ w. (w ++ codes "=" ++ v) ∷ back) (sym same);
  spelled = record { number = v; written = inr refl; value = value; allowed = allowed };
}

pub settings_read : (words : List Text) (cs : List Choice) (ss : List Setting) → AreRead words cs → Mean cs ss → AreSettings words ss
settings_read words [] [] are mean = are
settings_read words (chosen the_schedule v ∷ cs) (Schedule n ∷ ss) are mean =
    (are.0, begin_setting words the_schedule (Schedule n) v are.0 refl are.1 mean.0 mean.1, settings_read are.0 cs ss are.2 mean.2)
settings_read words (chosen the_events v ∷ cs) (Events n ∷ ss) are mean =
    (are.0, begin_setting words the_events (Events n) v are.0 refl are.1 mean.0 mean.1, settings_read are.0 cs ss are.2 mean.2)
settings_read words cs ss are mean = absurd mean

-- ---- each option once, and what its value sets

pub once_means : (cs : List Choice) (ss : List Setting) → Mean cs ss → (length (values_of the_schedule cs) ≡ length (schedules_of ss)) × (length (values_of the_events cs) ≡ length (limits_of ss))
once_means [] [] mean = (refl, refl)
once_means (chosen the_schedule v ∷ cs) (Schedule n ∷ ss) mean = let more = once_means cs ss mean.2 in (ap suc more.0, more.1)
once_means (chosen the_events v ∷ cs) (Events n ∷ ss) mean = let more = once_means cs ss mean.2 in (more.0, ap suc more.1)
once_means cs ss mean = absurd mean

pub means_schedule : (cs : List Choice) (ss : List Setting) → Mean cs ss → IsScheduleSet (first (values_of the_schedule cs)) (get_or (schedules_of ss) 0 USUAL_SCHEDULE)
means_schedule [] [] mean = refl
means_schedule (chosen the_schedule v ∷ cs) (Schedule n ∷ ss) mean = (mean.0, mean.1)
means_schedule (chosen the_events v ∷ cs) (Events n ∷ ss) mean = means_schedule cs ss mean.2
means_schedule cs ss mean = absurd mean

pub means_limit : (cs : List Choice) (ss : List Setting) → Mean cs ss → IsLimitSet (first (values_of the_events cs)) (get_or (limits_of ss) 0 USUAL_CALLS)
means_limit [] [] mean = refl
means_limit (chosen the_schedule v ∷ cs) (Schedule n ∷ ss) mean = means_limit cs ss mean.2
means_limit (chosen the_events v ∷ cs) (Events n ∷ ss) mean = (mean.0, mean.1.0, mean.1.1)
means_limit cs ss mean = absurd mean

none_first : (vs : List Text) → length vs ≤ 0 → first vs ≡ None
none_first [] few = refl
none_first (v ∷ vs) few = absurd (omega arith)

-- values that can be set are those of settings
pub set_means : (cs : List Choice) (a b : ℕ) → length (values_of the_schedule cs) ≤ 1 → length (values_of the_events cs) ≤ 1 → IsScheduleSet (first (values_of the_schedule cs)) a → IsLimitSet (first (values_of the_events cs)) b → (ss : List Setting) × Mean cs ss
set_means [] a b one two schedule limit = ([], tt)
set_means (chosen the_schedule v ∷ cs) a b one two schedule limit =
    let P : Option Text → Type 0 = λ o. IsScheduleSet o USUAL_SCHEDULE in
    let none = none_first (values_of the_schedule cs) (omega arith) in
    let more = set_means cs USUAL_SCHEDULE b (omega arith) two (subst P (sym none) refl) limit in
    (Schedule a ∷ more.0, (schedule.0, schedule.1, more.1))
set_means (chosen the_events v ∷ cs) a b one two schedule limit =
    let P : Option Text → Type 0 = λ o. IsLimitSet o USUAL_CALLS in
    let none = none_first (values_of the_events cs) (omega arith) in
    let more = set_means cs a USUAL_CALLS one (omega arith) schedule (subst P (sym none) refl) in
    (Events b ∷ more.0, (limit.0, (limit.1, limit.2), more.1))

schedule_one : (o : Option Text) (m n : ℕ) → IsScheduleSet o m → IsScheduleSet o n → m ≡ n
schedule_one None m n a b = a ∙ sym b
schedule_one (Some t) m n a b = sym a.0.1 ∙ b.0.1

limit_one : (o : Option Text) (m n : ℕ) → IsLimitSet o m → IsLimitSet o n → m ≡ n
limit_one None m n a b = a ∙ sym b
limit_one (Some t) m n a b = sym a.0.1 ∙ b.0.1

-- ---- rules, both ways

pub spelled_read : (words : List Text) (rules : Rules) → SpellsRules words rules → (cs : List Choice) × AreRead words cs × AreOnce cs × AreSet (first (values_of the_schedule cs)) (first (values_of the_events cs)) rules
spelled_read words rules spelled =
    let read = read_settings words spelled.settings spelled.spelled in
    let once = once_means read.0 spelled.settings read.2 in
    let P : ℕ → Type 0 = λ n. IsScheduleSet (first (values_of the_schedule read.0)) n in
    let Q : ℕ → Type 0 = λ n. IsLimitSet (first (values_of the_events read.0)) n in
    let fields = spelled.made in (
      read.0,
      read.1,
      each read.0 (spelled.once.0) (spelled.once.1) once.0 once.1,
      (
        subst P (sym (ap (λ (r : Rules). r.schedule) fields)) (means_schedule read.0 spelled.settings read.2),
        subst Q (sym (ap (λ (r : Rules). r.limit) fields)) (means_limit read.0 spelled.settings read.2),
      ),
    )
  where
    each : (cs : List Choice) {m n : ℕ} → m ≤ 1 → n ≤ 1 → length (values_of the_schedule cs) ≡ m → length (values_of the_events cs) ≡ n → AreOnce cs
    each cs a b e f the_schedule = omega arith
    each cs a b e f the_events = omega arith

pub read_spelled : (words : List Text) (cs : List Choice) (rules : Rules) → AreRead words cs → AreOnce cs → AreSet (first (values_of the_schedule cs)) (first (values_of the_events cs)) rules → SpellsRules words rules
read_spelled words cs rules read once set =
    let means = set_means cs rules.schedule rules.limit (once the_schedule) (once the_events) set.0 set.1 in
    let counts = once_means cs means.0 means.1 in
    let schedule : rules.schedule ≡ get_or (schedules_of means.0) 0 USUAL_SCHEDULE = schedule_one (first (values_of the_schedule cs)) _ _ set.0 (means_schedule cs means.0 means.1) in
    let limit : rules.limit ≡ get_or (limits_of means.0) 0 USUAL_CALLS = limit_one (first (values_of the_events cs)) _ _ set.1 (means_limit cs means.0 means.1) in
    let made : ℕ → ℕ → Rules = λ s l. record { schedule = s; limit = l } in
    let few : length (schedules_of means.0) ≤ 1 = omega (arith, once the_schedule) in
    let small : length (limits_of means.0) ≤ 1 = omega (arith, once the_events) in
    record {
      settings = means.0;
      spelled = settings_read words cs means.0 read means.1;
      once = (few, small);
      made = ap (λ s. made s rules.limit) schedule ∙ ap (λ l. made (get_or (schedules_of means.0) 0 USUAL_SCHEDULE) l) limit;
    }

-- ---- each word of options with values is readable

readable_value : (v : Text) → is_hyphened v ≡ false → is_readable v ≡ true
readable_value v plain = or_left (not (is_hyphened v)) _ (ap not plain)

readable_word : (key : Key) → is_readable (word key) ≡ true
readable_word the_schedule = refl
readable_word the_events = refl

readable_joined : (key : Key) (v : Text) → is_readable (joined key v) ≡ true
readable_joined the_schedule v = refl
readable_joined the_events v = refl

readable_by : (words : List Text) (key : Key) (v : Text) (back : List Text) → IsRead words key v back → list_all is_readable back ≡ true → list_all is_readable words ≡ true
readable_by words key v back (inl two) rest = ap (list_all is_readable) two.0 ∙ and_from _ _ (readable_word key) (and_from _ _ (readable_value v two.1) rest)
readable_by words key v back (inr one) rest = ap (list_all is_readable) one ∙ and_from _ _ (readable_joined key v) rest

pub all_readable : (words : List Text) (cs : List Choice) → AreRead words cs → list_all is_readable words ≡ true
all_readable words [] are = ap (list_all is_readable) are
all_readable words (chosen key v ∷ cs) are = readable_by words key v are.0 are.1 (all_readable are.0 cs are.2)

-- ---- what a readable word is

abbrev pub Form : Text → Type 0
Form w = (is_hyphened w ≡ false) ⊎ (((key : Key) × (w ≡ word key)) ⊎ ((key : Key) × (v : Text) × (w ≡ joined key v)))

from_prefix : (w prefix : Text) → starts_with eqb w prefix ≡ true → w ≡ prefix ++ drop (length prefix) w
from_prefix w prefix e =
    let same = (slice_eq-Decides Decides-eqb prefix (take (length prefix) w) (starts_with eqb w prefix) refl).0 e in
    sym (take-append-drop (length prefix) w) ∙ ap (λ p. p ++ drop (length prefix) w) (sym same)

pub form : (w : Text) → is_readable w ≡ true → Form w
form w e = ⊎_elim (λ plain. inl (not_true (is_hyphened w) plain))
    (λ rest. inr (⊎_elim (λ is. inl (the_schedule, (bytes_eq-Decides w (codes "--schedule")).0 is))
    (λ rest. ⊎_elim (λ is. inr (the_schedule, drop 11 w, from_prefix w (codes "--schedule=") is))
    (λ rest. ⊎_elim (λ is. inl (the_events, (bytes_eq-Decides w (codes "--events")).0 is))
    (λ is. inr (the_events, drop 9 w, from_prefix w (codes "--events=") is))
    (or_parts_true _ _ rest)) (or_parts_true _ _ rest)) (or_parts_true _ _ rest)))
    (or_parts_true (not (is_hyphened w)) _ e)
  where
    not_true : (b : Bool) → not b ≡ true → b ≡ false
    not_true false e = refl
    not_true true e = absurd (true≢false (sym e))

    or_parts_true : (a b : Bool) → (a || b) ≡ true → (a ≡ true) ⊎ (b ≡ true)
    or_parts_true true b e = inl refl
    or_parts_true false b e = inr e
