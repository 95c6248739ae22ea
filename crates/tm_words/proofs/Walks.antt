-- What a walk of `clap` over words comes to, word by word.
use Rattle.std.specs.Option.{option_map_or}
use Rattle.std.specs.List.{list_any}
use Rattle.std.specs.declared.alloc.Global.{Global}
use Rattle.std.proofs.Common.{◌≡◌, ◌&&◌, ◌||◌, ℕ, map, String, string_bytes, true≢false, Bool, true, false, List, [], ◌∷◌, Option, Some, None, if◌then◌else◌, fold, is_some, option_and_then, bytes_eq, refl, sym, ap, ap₂, ◌∙◌}
use Rattle.clap.specs.Kinds.{Kinds, or_else}
use Rattle.clap.specs.Lexer.{long_of, long_of_rest, short_of, short_of_rest, strip_byte}
use Rattle.clap.specs.Simple.{App, Shape, entered, names_of}
use Rattle.clap.specs.Faults.{bundle_fault, check_fault, defaults_fault, entered_fault, flag_word_fault, other_fault, settle_fault, step_fault, turn_fault, walk_fault, word_fault}
use Rattle.clap.specs.declared.error.kind.ErrorKind.{ErrorKind}
use Rattle.clap.specs.Walk.{Held, Row, Rule, Step, Text, Waiting, Walk, after_step, finished, idle, long_or_other, option, plain_word, positional, settled, short_or_plain, subcommand_met, subcommand_or_other, trailing, walked, word_met}
use Rattle.tm_words.specs.CommandLines.{is_hyphened}

-- the first fault of three, and no fault of two
pub or_else-assoc : (a b c : Kinds) → or_else (or_else a b) c ≡ or_else a (or_else b c)
or_else-assoc [] b c = refl
or_else-assoc (k ∷ ks) b c = refl

pub or_else-nil : (a : Kinds) → or_else a [] ≡ a
or_else-nil [] = refl
or_else-nil (k ∷ ks) = refl

pub or_else-none : (a b : Kinds) → or_else a b ≡ [] → (a ≡ []) × (b ≡ [])
or_else-none [] b e = (refl, e)
or_else-none (k ∷ ks) b e = absurd (let h : k ∷ ks ≡ [] = e in cc)

-- no fault and one
pub contradicts : {X : Type 0} (a b : Kinds) (k : ErrorKind) → a ≡ [] → a ≡ k ∷ b → X
contradicts a b k none some = absurd (let h : k ∷ b ≡ [] = sym some ∙ none in cc)

-- the faults that are left after a walk
abbrev pub rest_fault : App → Walk → Kinds
rest_fault a w =
    or_else (entered_fault a w.stopped)
    (or_else (settle_fault a.top.rules a.top.args_override_self w.held)
    (or_else (defaults_fault (settled a.top.rules w.held).rows a.top.rules)
    (check_fault a.top (finished a.top.rules w.held) (is_some (entered a w.stopped)))))

abbrev pub walk_end : App → Walk → List Text → Walk
walk_end a w words = fold (walked a.top.rules (names_of a)) w words

-- the faults of the words, from a walk that stands here
abbrev pub faults : App → Walk → List Text → Kinds
faults a w words = or_else (walk_fault a.top (names_of a) w words) (rest_fault a (walk_end a w words))

-- the words have no fault, and leave these rows
pub record Finds (a : App) (w : Walk) (words : List Text) (rows : List Row) : Type 0 where
  pub fault : faults a w words ≡ []
  pub rows_are : finished a.top.rules (walk_end a w words).held ≡ rows

-- one word more
pub faults-step : (a : App) (w next : Walk) (word : Text) (words : List Text) (f : Kinds) → turn_fault a.top (names_of a) w word ≡ f → walked a.top.rules (names_of a) w word ≡ next
    → faults a w (word ∷ words) ≡ or_else f (faults a next words)
unfolding walk_fault
faults-step a w next word words f fault is =
    or_else-assoc (turn_fault a.top (names_of a) w word) (walk_fault a.top (names_of a) (walked a.top.rules (names_of a) w word) words) (rest_fault a (walk_end a (walked a.top.rules (names_of a) w word) words))
    ∙ ap₂ (λ (g : Kinds) (v : Walk). or_else g (faults a v words)) fault is

pub finds-step : (a : App) (w next : Walk) (word : Text) (words : List Text) (rows : List Row) → turn_fault a.top (names_of a) w word ≡ [] → walked a.top.rules (names_of a) w word ≡ next
    → Finds a next words rows → Finds a w (word ∷ words) rows
finds-step a w next word words rows fault is found = record {
  fault = faults-step a w next word words [] fault is ∙ found.fault;
  rows_are = ap (λ (v : Walk). finished a.top.rules (walk_end a v words).held) is ∙ found.rows_are;
}

pub faultless-step : (a : App) (w next : Walk) (word : Text) (words : List Text) (f : Kinds) → turn_fault a.top (names_of a) w word ≡ f → walked a.top.rules (names_of a) w word ≡ next
    → faults a w (word ∷ words) ≡ [] → (f ≡ []) × (faults a next words ≡ [])
faultless-step a w next word words f fault is none = or_else-none f (faults a next words) (sym (faults-step a w next word words f fault is) ∙ none)

-- a word with a fault
pub faulty : (a : App) (w : Walk) (word : Text) (words : List Text) → faults a w (word ∷ words) ≡ [] → turn_fault a.top (names_of a) w word ≡ []
faulty a w word words none = (faultless-step a w (walked a.top.rules (names_of a) w word) word words (turn_fault a.top (names_of a) w word) refl refl none).0

-- ---- a word that begins with no hyphen

no_hyphen : (word : Text) → is_hyphened word ≡ false → strip_byte 45 word ≡ None
no_hyphen [] plain = refl
no_hyphen (b ∷ bs) plain = ap (λ (t : Bool). if t then Some bs else None) plain

no_long : (word : Text) → is_hyphened word ≡ false → long_of word ≡ None
no_long word plain = ap (λ (o : Option Text). option_and_then long_of_rest (option_and_then (strip_byte 45) o)) (no_hyphen word plain)

no_short : (word : Text) → is_hyphened word ≡ false → short_of word ≡ None
no_short word plain = ap (λ (o : Option Text). option_and_then short_of_rest o) (no_hyphen word plain)

no_hyphens : (word : Text) → is_hyphened word ≡ false → bytes_eq word (45 ∷ 45 ∷ []) ≡ false
no_hyphens [] plain = refl
no_hyphens (b ∷ bs) plain = ap (λ (t : Bool). t && bytes_eq bs (45 ∷ [])) plain

no_subcommand : (waiting : Waiting) (word : Text) → subcommand_met [] waiting word ≡ None
no_subcommand idle word = refl
no_subcommand (option id) word = refl
no_subcommand positional word = refl

-- where the walk stands
abbrev pub stand : Held → Waiting → ℕ → Walk
stand h waiting position = record { held = h; waiting = waiting; position = position; is_trailing = false; stopped = None }

plain_met : (c : List Rule) (waiting : Waiting) (position : ℕ) (word : Text) (h : Held) → is_hyphened word ≡ false → word_met c [] false waiting position word h ≡ plain_word c waiting word h
plain_met c waiting position word h plain =
    ap (λ (o : Option Text). subcommand_or_other c o waiting position word h) (no_subcommand waiting word)
    ∙ ap (λ (t : Bool). if t then (h, trailing position) else long_or_other c waiting word (long_of word) h) (no_hyphens word plain)
    ∙ ap (λ (o : Option (Text × Option Text)). long_or_other c waiting word o h) (no_long word plain)
    ∙ ap (λ (o : Option Text). short_or_plain c waiting word o h) (no_short word plain)

pub plain-walked : (c : List Rule) (h : Held) (waiting : Waiting) (position : ℕ) (word : Text) → is_hyphened word ≡ false
    → walked c [] (stand h waiting position) word ≡ after_step c word (stand h waiting position) (plain_word c waiting word h).0 (plain_word c waiting word h).1
unfolding walked
plain-walked c h waiting position word plain =
    ap (λ (m : Held × Step). after_step c word (stand h waiting position) m.0 m.1) (plain_met c waiting position word h plain)

plain_fault : (s : Shape) (waiting : Waiting) (word : Text) (h : Held) → is_hyphened word ≡ false → word_fault s [] false waiting word h ≡ []
plain_fault s waiting word h plain =
    ap (λ (o : Option Text). other_fault s o word h) (no_subcommand waiting word)
    ∙ ap (λ (t : Bool). if t then [] else flag_word_fault s.rules s.args_override_self (long_of word) word h) (no_hyphens word plain)
    ∙ ap (λ (o : Option (Text × Option Text)). flag_word_fault s.rules s.args_override_self o word h) (no_long word plain)
    ∙ ap (λ (o : Option Text). option_map_or (λ flags. bundle_fault s.rules s.args_override_self flags h) o []) (no_short word plain)

pub plain-turn : (s : Shape) (h : Held) (waiting : Waiting) (position : ℕ) (word : Text) → is_hyphened word ≡ false
    → turn_fault s [] (stand h waiting position) word ≡ step_fault s position (plain_word s.rules waiting word h).0 (plain_word s.rules waiting word h).1
plain-turn s h waiting position word plain =
    ap₂ (λ (f : Kinds) (m : Held × Step). or_else f (step_fault s position m.0 m.1)) (plain_fault s waiting word h plain) (plain_met s.rules waiting position word h plain)

-- ---- words of which none begins with a hyphen

any-map : {X : Type 0} (test : Text → Bool) (f : X → Text) (xs : List X) → list_any test (map f xs) ≡ list_any (λ x. test (f x)) xs
any-map test f [] = refl
any-map test f (x ∷ xs) = ap (λ b. test (f x) || b) (any-map test f xs)

-- words without a hyphen are no words with one
pub plain_words : (words : List (String Global)) (hyphens : Bool) → hyphens ≡ list_any (λ word. is_hyphened (string_bytes word)) words → hyphens ≡ true → list_any is_hyphened (map string_bytes words) ≡ false → ⊥
plain_words words hyphens is is_true plain = true≢false (sym is_true ∙ is ∙ sym (any-map is_hyphened string_bytes words) ∙ plain)

pub are_plain : (words : List (String Global)) (hyphens : Bool) → hyphens ≡ list_any (λ word. is_hyphened (string_bytes word)) words → hyphens ≡ false → list_any is_hyphened (map string_bytes words) ≡ false
are_plain words hyphens is is_false = any-map is_hyphened string_bytes words ∙ sym is ∙ is_false
