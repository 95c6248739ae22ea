-- What one more line behind the line `trace` says, and what all of them do.
use Rattle.std.proofs.Common.{◌≡◌, ℕ, suc, ◌+◌, Bool, true, false, not, List, [], ◌∷◌, ◌++◌, append_assoc, map, Option, Some, None, Result, Ok, Err, IfErr, refl, sym, ap, ◌∙◌, subst, arith}
use Rattle.std.specs.Result.{IsErrAnd}
use Rattle.std.proofs.lemmas.Bool.{cond-false, cond-true}
use Rattle.tm_base.specs.declared.events.Entry.{Entry}
use Rattle.tm_event_lines.specs.EventFaults.{event_fault}
use Rattle.tm_event_lines.specs.EventLines.{IsEventLine}
use Rattle.tm_lines.specs.declared.faults.Fault.{Fault}
use Rattle.tm_lines.specs.declared.faults.FaultyLine.{FaultyLine}
use Rattle.tm_lines.specs.Lines.{words_of}
use Rattle.tm_lines.specs.TextFaults.{fault_or}
use Rattle.tm_text.specs.Exercises.{ExerciseView}
use Rattle.tm_trace_texts.specs.Readings.{Reads, event_said, events_said}
use Rattle.tm_trace_texts.specs.TraceFaults.{first_event_fault}
use Rattle.tm_trace_texts.specs.TraceTexts.{AreEventLines, event_lines, is_passed_over}

pub event_lines-said : (line : List ℕ) (lines : List (List ℕ)) → is_passed_over (words_of line) ≡ false → event_lines (line ∷ lines) ≡ line ∷ event_lines lines
event_lines-said line lines h = cond-true (not (is_passed_over (words_of line))) _ _ (ap not h)

pub event_lines-passed : (line : List ℕ) (lines : List (List ℕ)) → is_passed_over (words_of line) ≡ true → event_lines (line ∷ lines) ≡ event_lines lines
event_lines-passed line lines h = cond-false (not (is_passed_over (words_of line))) _ _ (ap not h)

-- a line that says an event
pub reads-event : (x : ExerciseView) (n : ℕ) (line : List ℕ) (old : List Entry) (e : Entry) → is_passed_over (words_of line) ≡ false → IsEventLine x line e → Reads x n line old (old ++ e ∷ [])
reads-event x n line old e h is = record {
  said = λ lines.
      append_assoc old (e ∷ []) (events_said x lines) ∙ ap (λ d. old ++ (d ∷ events_said x lines)) is.said
      ∙ ap (λ ls. old ++ map (event_said x) ls) (sym (event_lines-said line lines h));
  fault = λ lines.
      let next : n + 1 ≡ suc n = omega arith in
      ap (λ m. first_event_fault x m lines) next
      ∙ sym (cond-false (is_passed_over (words_of line)) _ _ h ∙ ap (λ f. fault_or n f (first_event_fault x (suc n) lines)) is.faultless);
}

-- lines without a fault are event lines of what they say
pub first : (n : ℕ) (f : Option Fault) (later : Option FaultyLine) → fault_or n f later ≡ None → (f ≡ None) × (later ≡ None)
first n None later h = (refl, h)
first n (Some f) later h = absurd (cc)

said-line : (x : ExerciseView) (n : ℕ) (line : List ℕ) (lines : List (List ℕ)) (b : Bool) → is_passed_over (words_of line) ≡ b → first_event_fault x n (line ∷ lines) ≡ None
    → (first_event_fault x (suc n) lines ≡ None → AreEventLines x (event_lines lines) (events_said x lines)) → AreEventLines x (event_lines (line ∷ lines)) (events_said x (line ∷ lines))
said-line x n line lines true e h later =
    subst (λ ls. AreEventLines x ls (map (event_said x) ls)) (sym (event_lines-passed line lines e)) (later (sym (cond-true (is_passed_over (words_of line)) _ _ e) ∙ h))
said-line x n line lines false e h later =
    let both = first n (event_fault x line) (first_event_fault x (suc n) lines) (sym (cond-false (is_passed_over (words_of line)) _ _ e) ∙ h) in
    subst (λ ls. AreEventLines x ls (map (event_said x) ls)) (sym (event_lines-said line lines e)) (record { faultless = both.0; said = refl }, later both.1)

pub said-lines : (x : ExerciseView) (n : ℕ) (lines : List (List ℕ)) → first_event_fault x n lines ≡ None → AreEventLines x (event_lines lines) (events_said x lines)
said-lines x n [] h = tt
said-lines x n (line ∷ lines) h = said-line x n line lines (is_passed_over (words_of line)) refl h (said-lines x (suc n) lines)

-- and event lines have no fault
faultless-event : (x : ExerciseView) (n : ℕ) (line : List ℕ) (lines : List (List ℕ)) (es : List Entry) → AreEventLines x (line ∷ event_lines lines) es
    → ((fs : List Entry) → AreEventLines x (event_lines lines) fs → first_event_fault x (suc n) lines ≡ None) → fault_or n (event_fault x line) (first_event_fault x (suc n) lines) ≡ None
faultless-event x n line lines [] h later = absurd h
faultless-event x n line lines (e ∷ es) h later = ap (λ f. fault_or n f (first_event_fault x (suc n) lines)) h.0.faultless ∙ later es h.1

faultless-line : (x : ExerciseView) (n : ℕ) (line : List ℕ) (lines : List (List ℕ)) (es : List Entry) (b : Bool) → is_passed_over (words_of line) ≡ b → AreEventLines x (event_lines (line ∷ lines)) es
    → ((fs : List Entry) → AreEventLines x (event_lines lines) fs → first_event_fault x (suc n) lines ≡ None) → first_event_fault x n (line ∷ lines) ≡ None
faultless-line x n line lines es true e h later =
    cond-true (is_passed_over (words_of line)) _ _ e ∙ later es (subst (λ ls. AreEventLines x ls es) (event_lines-passed line lines e) h)
faultless-line x n line lines es false e h later =
    cond-false (is_passed_over (words_of line)) _ _ e ∙ faultless-event x n line lines es (subst (λ ls. AreEventLines x ls es) (event_lines-said line lines e) h) later

pub faultless-lines : (x : ExerciseView) (n : ℕ) (lines : List (List ℕ)) (es : List Entry) → AreEventLines x (event_lines lines) es → first_event_fault x n lines ≡ None
faultless-lines x n [] es h = refl
faultless-lines x n (line ∷ lines) es h = faultless-line x n line lines es (is_passed_over (words_of line)) refl h (λ fs. faultless-lines x (suc n) lines fs)

-- they are event lines of one list of events
pub one-list : (x : ExerciseView) (lines : List (List ℕ)) (es fs : List Entry) → AreEventLines x lines es → AreEventLines x lines fs → es ≡ fs
one-list x [] [] [] h g = refl
one-list x [] [] (f ∷ fs) h g = absurd g
one-list x [] (e ∷ es) fs h g = absurd h
one-list x (line ∷ lines) [] fs h g = absurd h
one-list x (line ∷ lines) (e ∷ es) [] h g = absurd g
one-list x (line ∷ lines) (e ∷ es) (f ∷ fs) h g =
    ap (λ d. d ∷ es) (h.0.said ∙ sym g.0.said) ∙ ap (λ ds. f ∷ ds) (one-list x lines es fs h.1 g.1)

-- what holds of a fault that is handed on
pub if_err : {T E : Type 0} (r : Result T E) (Q P : E → Type 0) → IsErrAnd r Q → ((y : E) → Q y → P y) → IfErr r P
if_err (Ok v) Q P given holds = absurd given
if_err (Err y) Q P given holds = holds y given
