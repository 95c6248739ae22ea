-- No line of an exercise's text is `trace`.
use Rattle.std.proofs.Common.{◌≡◌, ℕ, suc, nat_lt, Bool, true, false, List, [], ◌∷◌, codes, length, map, Option, Some, None, refl, sym, ap, ◌∙◌}
use Rattle.std.specs.List.{list_all, list_any}
use Rattle.std.proofs.lemmas.Bool.{cond-false, cond-true}
use Rattle.std.proofs.lemmas.Slice.Eq.{bytes_eq-Decides}
use Rattle.tm_base.specs.declared.kinds.Kind.{Kind}
use Rattle.tm_lines.specs.declared.faults.Fault.{Fault}
use Rattle.tm_lines.specs.declared.faults.Fault.TheVariants as fault
use Rattle.tm_lines.specs.declared.faults.FaultyLine.{FaultyLine}
use Rattle.tm_lines.specs.declared.limits.TheConstants.{MOST_BYTES}
use Rattle.tm_lines.specs.FirstWords.{first_word_of}
use Rattle.tm_lines.specs.LineFaults.{Place, fault_of_line, fault_of_words, first_place, place_by}
use Rattle.tm_lines.specs.Lines.{is_ignored, is_printed, lines_of, without_cr, words_of}
use Rattle.tm_lines.specs.NamedLines.{word_at}
use Rattle.tm_lines.specs.TextFaults.{fault_or, first_fault, first_fault_from, named_in, text_lines}
use Rattle.tm_trace_texts.specs.TraceTexts.{are_trace, is_trace_line}
use Rattle.tm_trace_texts.proofs.AnswersLemmas.{unless}
use Rattle.tm_trace_texts.proofs.EventLinesLemmas.{first}
use Rattle.tm_trace_texts.proofs.FirstLemmas.{any-later}

trace-words : (ws : List (List ℕ)) → are_trace ws ≡ true → ws ≡ codes "trace" ∷ []
trace-words [] h = absurd (cc)
trace-words (w ∷ []) h = ap (λ v. v ∷ []) ((bytes_eq-Decides w (codes "trace")).0 h)
trace-words (w ∷ v ∷ ws) h = absurd (cc)

-- a line `trace` is faulty
trace-faulty : (named : List ℕ → Option Kind) (p : Place) (line : List ℕ) → words_of line ≡ codes "trace" ∷ [] → (b : Bool) → list_all is_printed line ≡ b → (f : Fault) × (fault_of_line named p line ≡ Some f)
trace-faulty named p line is false e = (fault.Byte, cond-false (list_all is_printed line) _ _ e)
trace-faulty named p line is true e = (
  fault.Word,
  cond-true (list_all is_printed line) _ _ e ∙ ap (λ ws. fault_of_words p (named (word_at 1 ws)) ws (first_word_of (word_at 0 ws))) is,
)

no-trace : (named : List ℕ → Option Kind) (n : ℕ) (p : Place) (line : List ℕ) (later : Option FaultyLine) → words_of line ≡ codes "trace" ∷ [] → fault_or n (fault_of_line named p line) later ≡ None → ⊥
no-trace named n p line later is h =
    let faulty = trace-faulty named p line is (list_all is_printed line) refl in
    let some : fault_or n (Some faulty.0) later ≡ None = ap (λ f. fault_or n f later) (sym faulty.1) ∙ h in
    cc

-- the rest of a faultless text is faultless
rest-faultless : (named : List ℕ → Option Kind) (n : ℕ) (p : Place) (line : List ℕ) (lines : List (List ℕ)) (b : Bool) → is_ignored (words_of line) ≡ b → first_fault_from named n p (line ∷ lines) ≡ None
    → (q : Place) × (first_fault_from named (suc n) q lines ≡ None)
rest-faultless named n p line lines true e h = (p, sym (cond-true (is_ignored (words_of line)) _ _ e) ∙ h)
rest-faultless named n p line lines false e h = (
  place_by p (words_of line),
  (first n (fault_of_line named p line) _ (sym (cond-false (is_ignored (words_of line)) _ _ e) ∙ h)).1,
)

trace-never : (named : List ℕ → Option Kind) (n : ℕ) (p : Place) (line : List ℕ) (lines : List (List ℕ)) (b : Bool) → is_trace_line line ≡ b → first_fault_from named n p (without_cr line ∷ lines) ≡ None → is_trace_line line ≡ false
trace-never named n p line lines false e h = e
trace-never named n p line lines true e h =
    let is = trace-words (words_of (without_cr line)) e in
    absurd (no-trace named n p (without_cr line) _ is (sym (cond-false (is_ignored (words_of (without_cr line))) _ _ (ap is_ignored is)) ∙ h))

none-from : (named : List ℕ → Option Kind) (n : ℕ) (p : Place) (lines : List (List ℕ)) → first_fault_from named n p (map without_cr lines) ≡ None → list_any is_trace_line lines ≡ false
none-from named n p [] h = refl
none-from named n p (line ∷ lines) h =
    let never = trace-never named n p line (map without_cr lines) (is_trace_line line) refl h in
    let rest = rest-faultless named n p (without_cr line) (map without_cr lines) (is_ignored (words_of (without_cr line))) refl h in
    any-later is_trace_line line lines never ∙ none-from named (suc n) rest.0 lines rest.1

pub none-is-trace : (bytes : List ℕ) → first_fault bytes ≡ None → list_any is_trace_line (lines_of bytes) ≡ false
none-is-trace bytes h =
    none-from (named_in (text_lines bytes)) 1 first_place (lines_of bytes) (unless (nat_lt MOST_BYTES (length bytes)) _ _ h).1
