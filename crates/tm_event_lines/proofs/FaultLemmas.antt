-- A line without a fault.
use Rattle.std.proofs.Common.{◌≡◌, ℕ, Bool, true, false, not, cond, List, Option, None, Some, refl, sym, ap, ◌∙◌}
use Rattle.std.specs.List.{find, list_all}
use Rattle.std.proofs.lemmas.Bool.{cond-false}
use Rattle.tm_lines.specs.declared.faults.Fault.{Fault}
use Rattle.tm_lines.specs.Lines.{is_printed}
use Rattle.tm_text.specs.declared.exercises.Declaration.{Declaration}
use Rattle.tm_event_lines.specs.EventFaults.{applies, event_faults, has_unknown_name, has_unknown_word, has_wrong_count, has_wrong_number}
use Rattle.tm_event_lines.specs.EventWords.{Parts}

-- no kind of fault applies to a line with these parts
pub record IsFaultless (ds : List Declaration) (line : List ℕ) (p : Parts) : Type 0 where
  pub printed : list_all is_printed line ≡ true
  pub words : has_unknown_word p ≡ false
  pub count : has_wrong_count p ≡ false
  pub names : has_unknown_name ds p ≡ false
  pub numbers : has_wrong_number p ≡ false

pub none_applies : (ds : List Declaration) (line : List ℕ) (p : Parts) → IsFaultless ds line p → find (applies ds line p) event_faults ≡ None
none_applies ds line p h =
    cond-false (not (list_all is_printed line)) _ _ (ap not h.printed)
    ∙ cond-false (has_unknown_word p) _ _ h.words
    ∙ cond-false (has_wrong_count p) _ _ h.count
    ∙ cond-false (has_unknown_name ds p) _ _ h.names
    ∙ cond-false (has_wrong_number p) _ _ h.numbers

less : (b : Bool) (f : Fault) (r : Option Fault) → cond b (Some f) r ≡ None → (b ≡ false) × (r ≡ None)
less true f r h = absurd (cc)
less false f r h = (refl, h)

not_false : (b : Bool) → not b ≡ false → b ≡ true
not_false true h = refl
not_false false h = sym h

pub faultless_line : (ds : List Declaration) (line : List ℕ) (p : Parts) → find (applies ds line p) event_faults ≡ None → IsFaultless ds line p
faultless_line ds line p h =
    let one = less (not (list_all is_printed line)) _ _ h in
    let two = less (has_unknown_word p) _ _ one.1 in
    let three = less (has_wrong_count p) _ _ two.1 in
    let four = less (has_unknown_name ds p) _ _ three.1 in
    let five = less (has_wrong_number p) _ _ four.1 in
    record { printed = not_false _ one.0; words = two.0; count = three.0; names = four.0; numbers = five.0 }
