-- What is printed of a trace, and that it is read back.
use Rattle.std.proofs.Common.{◌≡◌, ℕ, suc, ◌+◌, ◌<◌, ◌≤◌, Bool, true, false, cond, not, List, [], ◌∷◌, ◌++◌, append_assoc, codes, flat_map, get_or, length, map, take, Option, Some, None, refl, sym, ap, ◌∙◌, subst, arith}
use Rattle.std.specs.List.{after_first, before_first, list_all, list_any}
use Rattle.std.proofs.lemmas.Grind.{flat_map-append}
use Rattle.std.proofs.lemmas.List.{append-nil, take_more}
use Rattle.tm_base.specs.declared.events.Entry.{Entry}
use Rattle.tm_event_lines.specs.EventLines.{IsEventLine}
use Rattle.tm_event_lines.specs.EventTexts.{EventTextsReadBack, HasLongValues}
use Rattle.tm_lines.specs.declared.faults.Fault.{Fault}
use Rattle.tm_lines.specs.Lines.{is_printed, lines_of, without_cr, words_of}
use Rattle.tm_lines.specs.TextFaults.{text_lines}
use Rattle.tm_text.specs.CanonicalTexts.{canonical_text}
use Rattle.tm_text.specs.Exercises.{ExerciseView, IsWellFormed}
use Rattle.tm_text.specs.Texts.{IsExercise}
use Rattle.tm_text.proofs.JoinedWords.{line_cut}
use Rattle.tm_timeline.specs.Rows.{event_text}
use Rattle.tm_trace.specs.Traces.{AreTraceable}
use Rattle.tm_trace_texts.specs.declared.limits.TheConstants.{MOST_TRACE_BYTES}
use Rattle.tm_trace_texts.specs.PrintedTraces.{event_line, trace_text}
use Rattle.tm_trace_texts.specs.TraceTexts.{AreEventLines, IsTraceText, event_lines, exercise_part, is_passed_over, is_trace_line, joined, lines_behind}
use Rattle.tm_trace_texts.proofs.ClosedLemmas.{closed-joined, closed-lines, closed-text}
use Rattle.tm_trace_texts.proofs.EventLinesLemmas.{event_lines-said}
use Rattle.tm_trace_texts.proofs.FaultlessLemmas.{none-is-trace}
use Rattle.tm_trace_texts.proofs.FirstLemmas.{after-behind, any-behind, before-behind}
use Rattle.tm_trace_texts.proofs.FirstWordLemmas.{event-other}

-- one event more
pub printed-more : (x y : ExerciseView) (es : List Entry) (i : ℕ) (d : Entry) (out more : List ℕ) → y ≡ x → i < length es → more ≡ out ++ event_line y (get_or es i d) → out ≡ trace_text x (take i es) → more ≡ trace_text x (take (i + 1) es)
printed-more x y es i d out more same within appended before =
    let e = get_or es i d in
    let lines = flat_map (event_line x) (take i es) in
    let head = canonical_text x ++ codes "trace" ++ 10 ∷ [] in
    let next : flat_map (event_line x) (take (i + 1) es) ≡ lines ++ event_line x e =
    ap (flat_map (event_line x)) (take_more es i d within) ∙ flat_map-append (event_line x) (take i es) (e ∷ []) ∙ ap (λ l. lines ++ l) (append-nil (event_line x e)) in
    appended ∙ ap (λ z. out ++ event_line z e) same ∙ ap (λ bs. bs ++ event_line x e) before ∙ append_assoc head lines (event_line x e) ∙ ap (λ l. head ++ l) (sym next)

-- the values of the events are of 64 bits
abbrev pub AreLong : List Entry → Type 0
AreLong [] = Unit {0}
AreLong (e ∷ es) = HasLongValues e × AreLong es

long-push : (es : List Entry) (e : Entry) → AreLong es → HasLongValues e → AreLong (es ++ e ∷ [])
long-push [] e h long = (long, tt)
long-push (f ∷ es) e h long = (h.0, long-push es e h.1 long)

pub long-more : (es : List Entry) (i : ℕ) (d : Entry) → i < length es → HasLongValues (get_or es i d) → AreLong (take i es) → AreLong (take (i + 1) es)
long-more es i d within long before = subst AreLong (sym (take_more es i d within)) (long-push (take i es) (get_or es i d) before long)

-- the text of each event is an event line of it, and isn't passed over
record IsWritten (x : ExerciseView) (e : Entry) : Type 0 where
  pub line : IsEventLine x (event_text x e) e
  pub said : is_passed_over (words_of (event_text x e)) ≡ false

abbrev AreWritten : ExerciseView → List Entry → Type 0
AreWritten x [] = Unit {0}
AreWritten x (e ∷ es) = IsWritten x e × AreWritten x es

written : (x : ExerciseView) (es : List Entry) → EventTextsReadBack → IsWellFormed x → AreTraceable x es → AreLong es → AreWritten x es
written x [] back formed traceable long = tt
written x (e ∷ es) back formed traceable long =
    let is = traceable e (0, omega arith, refl) in (
      record { line = (back x e formed is long.0).text; said = event-other x e is.stamp },
      written x es back formed (λ f there. let below = there.1 in traceable f (suc there.0, omega arith, there.2)) long.1,
    )

printed : (b : Bool) (f : Fault) (later : Option Fault) → cond (not b) (Some f) later ≡ None → b ≡ true
printed true f later h = refl
printed false f later h = absurd (cc)

written-lines : (x : ExerciseView) (es : List Entry) → AreWritten x es → text_lines (flat_map (event_line x) es) ≡ map (event_text x) es
written-lines x [] h = refl
written-lines x (e ∷ es) h =
    let line = event_text x e in
    let rest = flat_map (event_line x) es in
    ap text_lines (append_assoc line (10 ∷ []) rest) ∙ line_cut line rest (printed (list_all is_printed line) _ _ h.0.line.faultless)
    ∙ ap (λ ls. line ∷ ls) (written-lines x es h.1)

written-said : (x : ExerciseView) (es : List Entry) → AreWritten x es → event_lines (map (event_text x) es) ≡ map (event_text x) es
written-said x [] h = refl
written-said x (e ∷ es) h = event_lines-said (event_text x e) (map (event_text x) es) h.0.said ∙ ap (λ ls. event_text x e ∷ ls) (written-said x es h.1)

written-events : (x : ExerciseView) (es : List Entry) → AreWritten x es → AreEventLines x (map (event_text x) es) es
written-events x [] h = tt
written-events x (e ∷ es) h = (h.0.line, written-events x es h.1)

-- the printed text is cut where it was joined
module _ (x : ExerciseView) (es : List Entry) (is : IsExercise (canonical_text x) x) where
  lines-cut : lines_of (trace_text x es) ≡ lines_of (canonical_text x) ++ codes "trace" ∷ lines_of (flat_map (event_line x) es)
  lines-cut =
      let t = canonical_text x in
      let events = flat_map (event_line x) es in
      ap lines_of (append_assoc (t ++ codes "trace") (10 ∷ []) events ∙ append_assoc t (codes "trace") (10 ∷ events))
      ∙ closed-lines t (codes "trace" ++ 10 ∷ events) (closed-text x)

  none : list_any is_trace_line (lines_of (canonical_text x)) ≡ false
  none = none-is-trace (canonical_text x) is.faultless

  trace-there : list_any is_trace_line (lines_of (trace_text x es)) ≡ true
  trace-there = ap (list_any is_trace_line) lines-cut ∙ any-behind is_trace_line (lines_of (canonical_text x)) (codes "trace") (lines_of (flat_map (event_line x) es)) none refl

  part-back : exercise_part (trace_text x es) ≡ canonical_text x
  part-back =
      ap (λ ls. joined (before_first is_trace_line ls)) lines-cut
      ∙ ap joined (before-behind is_trace_line (lines_of (canonical_text x)) (codes "trace") (lines_of (flat_map (event_line x) es)) none refl)
      ∙ closed-joined (canonical_text x) (closed-text x)

  behind-back : lines_behind (trace_text x es) ≡ text_lines (flat_map (event_line x) es)
  behind-back =
      ap (λ ls. map without_cr (after_first is_trace_line ls)) lines-cut
      ∙ ap (map without_cr) (after-behind is_trace_line (lines_of (canonical_text x)) (codes "trace") (lines_of (flat_map (event_line x) es)) none refl)

  pub reads-back : EventTextsReadBack → IsWellFormed x → AreTraceable x es → AreLong es → length (trace_text x es) ≤ MOST_TRACE_BYTES → IsTraceText (trace_text x es) x es
  reads-back back formed traceable long short =
      let all = written x es back formed traceable long in
      let behind : event_lines (lines_behind (trace_text x es)) ≡ map (event_text x) es = ap event_lines (behind-back ∙ written-lines x es all) ∙ written-said x es all in
      record {
        short = short;
        trace = trace-there;
        exercise = subst (λ p. IsExercise p x) (sym part-back) is;
        events = subst (λ ls. AreEventLines x ls es) (sym behind) (written-events x es all);
      }
