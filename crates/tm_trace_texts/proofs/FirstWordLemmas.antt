-- The text of an event begins with a digit, so that it isn't passed over.
use Rattle.std.proofs.Common.{◌≡◌, ℕ, Bool, true, false, cond, ◌&&◌, ◌||◌, ◌==◌, List, [], ◌∷◌, ◌++◌, codes, Some, None, refl, ap, ◌∙◌, arith}
use Rattle.std.specs.Fmt.{decimal}
use Rattle.std.specs.Str.{bytes_eq}
use Rattle.std.proofs.lemmas.Bool.{cond-false, or_from}
use Rattle.std.proofs.lemmas.Bool.Decides.{nat_tests}
use Rattle.tm_base.specs.declared.events.Entry.{Entry}
use Rattle.tm_base.specs.Names.{is_digit}
use Rattle.tm_base.specs.Opcodes.{opcode_of, word_of}
use Rattle.tm_lines.specs.Lines.{is_blank, put_first, put_word, words_of}
use Rattle.tm_lines.specs.Numerals.{digits_after, natural_of}
use Rattle.tm_text.specs.Exercises.{ExerciseView}
use Rattle.tm_text.proofs.WrittenValues.{natural_back}
use Rattle.tm_timeline.specs.Rows.{detail_text, event_text, operand_text, places_text}
use Rattle.tm_timeline.specs.TraceableEvents.{IsCounted}
use Rattle.tm_timeline.specs.Words.{reply_word}
use Rattle.tm_trace_texts.specs.TraceTexts.{is_passed_over}

-- the first byte of a word is that of the line
abbrev BeginsWith : ℕ → List (List ℕ) → Type 0
BeginsWith b ws = (w : List ℕ) × (vs : List (List ℕ)) × (ws ≡ (b ∷ w) ∷ vs)

begins-put : (t : Bool) (b : ℕ) (ws : List (List ℕ)) → BeginsWith b (cond t ((b ∷ []) ∷ ws) (put_first b ws))
begins-put true b ws = ([], ws, refl)
begins-put false b [] = ([], [], refl)
begins-put false b (w ∷ ws) = (w, ws, refl)

begins-word : (b : ℕ) (bs : List ℕ) (ws : List (List ℕ)) → BeginsWith b (put_word b bs ws)
begins-word b [] ws = ([], ws, refl)
begins-word b (c ∷ bs) ws = begins-put (is_blank c) b ws

begins-line : (b : ℕ) (bs : List ℕ) → is_blank b ≡ false → BeginsWith b (words_of (b ∷ bs))
begins-line b bs h =
    let first = begins-word b bs (words_of bs) in
    (first.0, first.1, cond-false (is_blank b) _ _ h ∙ first.2)

-- a digit begins neither an ignored line nor a word that says how a run ended
record IsOther (b : ℕ) : Type 0 where
  pub blank : is_blank b ≡ false
  pub hash : b == 35 ≡ false
  pub d : b == 100 ≡ false
  pub s : b == 115 ≡ false
  pub c : b == 98 ≡ false
  pub l : b == 108 ≡ false

digit-other : (b : ℕ) → is_digit b ≡ true → IsOther b
digit-other b h = record {
  blank = grind (arith, nat_tests);
  hash = grind (arith, nat_tests);
  d = grind (arith, nat_tests);
  s = grind (arith, nat_tests);
  c = grind (arith, nat_tests);
  l = grind (arith, nat_tests);
}

and-less : (p q : Bool) → p ≡ false → (p && q) ≡ false
and-less p q h = ap (λ t. t && q) h

word-other : (b : ℕ) (w : List ℕ) (ws : List (List ℕ)) → IsOther b → is_passed_over ((b ∷ w) ∷ ws) ≡ false
word-other b w ws h =
    let is = bytes_eq (b ∷ w) in
    let done : is (codes "done") ≡ false = and-less (b == 100) _ h.d in
    let stuck : is (codes "stuck") ≡ false = and-less (b == 115) _ h.s in
    let budget : is (codes "budget") ≡ false = and-less (b == 98) _ h.c in
    let legal : is (codes "legal") ≡ false = and-less (b == 108) _ h.l in
    let two = or_from (is (codes "done")) (is (codes "stuck")) done stuck in
    let three = or_from (is (codes "done") || is (codes "stuck")) (is (codes "budget")) two budget in
    or_from (b == 35) (is (codes "done") || is (codes "stuck") || is (codes "budget") || is (codes "legal")) h.hash
    (or_from (is (codes "done") || is (codes "stuck") || is (codes "budget")) (is (codes "legal")) three legal)

-- a number in decimal begins with a digit
first-digit : (b : ℕ) (bs : List ℕ) (n : ℕ) (t : Bool) → is_digit b ≡ t → natural_of (b ∷ bs) ≡ Some n → is_digit b ≡ true
first-digit b bs n true e h = e
first-digit b bs n false e h =
    let none : digits_after 0 (b ∷ bs) ≡ None = cond-false (is_digit b) _ _ e in
    absurd (cc)

begins-digit : (w : List ℕ) (n : ℕ) → natural_of w ≡ Some n → (b : ℕ) × (bs : List ℕ) × (w ≡ b ∷ bs) × (is_digit b ≡ true)
begins-digit [] n h = absurd (cc)
begins-digit (b ∷ bs) n h = (b, bs, refl, first-digit b bs n (is_digit b) refl h)

pub event-other : (x : ExerciseView) (e : Entry) → IsCounted e.stamp → is_passed_over (words_of (event_text x e)) ≡ false
event-other x e counted =
    let most = counted.last in
    let digit = begins-digit (decimal e.stamp) e.stamp (natural_back e.stamp (omega arith)) in
    let other = digit-other digit.0 digit.3 in
    let behind = λ (w : List ℕ). w ++ codes " " ++ places_text x e ++ codes " " ++ word_of (opcode_of e.op) ++ operand_text e.op ++ codes " " ++ reply_word e.reply ++ detail_text x e.reply in
    let rest = behind digit.1 in
    let text : event_text x e ≡ digit.0 ∷ rest = ap behind digit.2 in
    let word = begins-line digit.0 rest other.blank in
    ap (λ bs. is_passed_over (words_of bs)) text ∙ ap is_passed_over word.2 ∙ word-other digit.0 word.0 word.1 other
