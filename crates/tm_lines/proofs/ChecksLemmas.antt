-- One line more of a text.
use Rattle.std.proofs.Common.{◌≡◌, ℕ, suc, ◌+◌, false, List, ◌∷◌, Option, Some, sym, ap, ◌∙◌, arith}
use Rattle.std.proofs.lemmas.Bool.{cond-true, cond-false}
use Rattle.tm_base.specs.declared.kinds.Kind.{Kind}
use Rattle.tm_lines.specs.declared.saying.Line.{Line}
use Rattle.tm_lines.specs.declared.saying.Line.TheVariants as line
use Rattle.tm_lines.specs.Checks.{Check, Follows, IsLine, fault_after, fault_left}
use Rattle.tm_lines.specs.LineFaults.{Place, fault_of_line, place_by}
use Rattle.tm_lines.specs.Lines.{is_ignored, words_of}
use Rattle.tm_lines.specs.TextFaults.{fault_or, first_fault_from, named_in, text_lines}

-- the first fault after a line that isn't ignored
first_fault_from-line : (named : List ℕ → Option Kind) (n : ℕ) (p : Place) (bytes : List ℕ) (lines : List (List ℕ)) → is_ignored (words_of bytes) ≡ false → first_fault_from named n p (bytes ∷ lines) ≡ fault_or n (fault_of_line named p bytes) (first_fault_from named (suc n) (place_by p (words_of bytes)) lines)
first_fault_from-line named n p bytes lines h = cond-false (is_ignored (words_of bytes)) _ _ h

-- what is left of a text, by parts that are equal to its own
left_by : (k : Check) (text : List ℕ) (n : ℕ) (p : Place) → k.text ≡ text → k.number ≡ n + 1 → k.place ≡ p → first_fault_from (named_in (text_lines text)) (suc n) p (text_lines k.rest) ≡ fault_left k
left_by k text n p texts numbers places =
    let number : suc n ≡ k.number = omega arith in
    ap (λ t. first_fault_from (named_in (text_lines t)) (suc n) p (text_lines k.rest)) (sym texts)
    ∙ ap (λ m. first_fault_from (named_in (text_lines k.text)) m p (text_lines k.rest)) number
    ∙ ap (λ q. first_fault_from (named_in (text_lines k.text)) k.number q (text_lines k.rest)) (sym places)

fault_of-line : (old new : Check) (bytes : List ℕ) (l : Line) → IsLine (text_lines old.text) old.number old.place bytes l new.place → new.text ≡ old.text → new.number ≡ old.number + 1 → first_fault_from (named_in (text_lines old.text)) old.number old.place (bytes ∷ text_lines new.rest) ≡ fault_after l new
fault_of-line old new bytes line.Ignored h text number =
    cond-true (is_ignored (words_of bytes)) _ _ h.0 ∙ left_by new old.text old.number old.place text number h.1
fault_of-line old new bytes (line.Said said) h text number =
    let named = named_in (text_lines old.text) in
    first_fault_from-line named old.number old.place bytes (text_lines new.rest) h.0
    ∙ ap (λ f. fault_or old.number f (first_fault_from named (suc old.number) (place_by old.place (words_of bytes)) (text_lines new.rest))) h.1
    ∙ left_by new old.text old.number (place_by old.place (words_of bytes)) text number h.3
fault_of-line old new bytes (line.Faulty fault) h text number =
    let named = named_in (text_lines old.text) in
    first_fault_from-line named old.number old.place bytes (text_lines new.rest) h.0
    ∙ ap (λ f. fault_or old.number f (first_fault_from named (suc old.number) (place_by old.place (words_of bytes)) (text_lines new.rest))) h.1
    ∙ ap (λ n. Some (record { line = n; kind = fault.kind })) (sym h.2)

pub follows : (old new : Check) (bytes : List ℕ) (l : Line) → text_lines old.rest ≡ bytes ∷ text_lines new.rest → IsLine (text_lines old.text) old.number old.place bytes l new.place → new.text ≡ old.text → new.number ≡ old.number + 1 → Follows old l new
follows old new bytes l lines is_line text number = record {
  bytes = bytes;
  lines = lines;
  is_line = is_line;
  text = text;
  number = number;
  fault = ap (first_fault_from (named_in (text_lines old.text)) old.number old.place) lines ∙ fault_of-line old new bytes l is_line text number;
}
