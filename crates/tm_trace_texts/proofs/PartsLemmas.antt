-- How far the line `trace` was looked for.
use Rattle.std.proofs.Common.{◌≡◌, ℕ, ◌+◌, ◌<◌, ◌≤◌, true, false, List, [], ◌∷◌, take, length, length-take, map, refl, sym, ap, ◌∙◌, arith}
use Rattle.std.specs.List.{after_first, before_first, list_any, position_or_len}
use Rattle.tm_lines.specs.Lines.{lines_of, without_cr}
use Rattle.tm_lines.specs.TextFaults.{text_lines}
use Rattle.tm_trace_texts.specs.Readings.{HasNoTraceLine}
use Rattle.tm_trace_texts.specs.TraceTexts.{exercise_part, has_trace_line, is_trace_line, joined, lines_before, lines_behind}
use Rattle.tm_trace_texts.proofs.FirstLemmas.{after-here, after-later, any-here, any-later, before-here, before-later, within}
use Rattle.tm_trace_texts.proofs.JoinedLemmas.{begins_with, joined-length, joined-longer}

-- none of so many lines of the text is `trace`; these bytes, with their LFs, stand before the rest
pub record IsSearched (text rest : List ℕ) (count len : ℕ) : Type 0 where
  pub trace : has_trace_line text ≡ has_trace_line rest
  pub lines : length (lines_of text) ≡ count + length (lines_of rest)
  pub before : length (lines_before text) ≡ count + length (lines_before rest)
  pub exercise : length (exercise_part text) ≡ len + length (exercise_part rest)
  pub behind : lines_behind text ≡ lines_behind rest
  pub joined : len + length (joined (lines_of rest)) ≤ length text + 1
  pub room : count + length rest ≤ length text

pub searched-none : (text : List ℕ) → IsSearched text text 0 0
searched-none text =
    let longer = joined-longer text in
    record { trace = refl; lines = omega arith; before = omega arith; exercise = omega arith; behind = refl; joined = omega arith; room = omega arith }

-- one line more that isn't `trace`
pub searched-more : (text rest behind line : List ℕ) (count len : ℕ) → IsSearched text rest count len → lines_of rest ≡ line ∷ lines_of behind
    → length behind < length rest → is_trace_line line ≡ false → IsSearched text behind (count + 1) (len + (length line + 1))
searched-more text rest behind line count len h cut shorter other =
    let ls = lines_of behind in
    let before : lines_before rest ≡ line ∷ lines_before behind = ap (before_first is_trace_line) cut ∙ before-later is_trace_line line ls other in
    let number = ap length before in
    let part = ap (λ l. length (joined l)) before ∙ joined-length line (lines_before behind) in
    let whole = ap (λ l. length (joined l)) cut ∙ joined-length line ls in
    let many = ap length cut in
    let h-lines = h.lines in
    let h-before = h.before in
    let h-exercise = h.exercise in
    let h-joined = h.joined in
    let h-room = h.room in
    record {
      trace = h.trace ∙ ap (list_any is_trace_line) cut ∙ any-later is_trace_line line ls other;
      lines = omega arith;
      before = omega arith;
      exercise = omega arith;
      behind = h.behind ∙ ap (λ l. map without_cr (after_first is_trace_line l)) cut ∙ ap (map without_cr) (after-later is_trace_line line ls other);
      joined = omega arith;
      room = omega arith;
    }

-- the lines end
pub searched-all : (text : List ℕ) (count len : ℕ) → IsSearched text [] count len → HasNoTraceLine text count
searched-all text count len h = let lines = h.lines in record { none = h.trace; lines = omega arith }

-- the exercise part begins the text
pub part-front : (text : List ℕ) → has_trace_line text ≡ true → take (length (exercise_part text)) text ≡ exercise_part text
part-front text h = begins_with text (position_or_len is_trace_line (lines_of text)) (within is_trace_line (lines_of text) h)

pub part-within : (text : List ℕ) → has_trace_line text ≡ true → length (exercise_part text) ≤ length text
part-within text h = omega (arith, ap length (part-front text h), length-take {A = ℕ})

-- the next line is `trace`
pub record IsTraceNext (text : List ℕ) (len : ℕ) (next : ℕ) (rest : List ℕ) : Type 0 where
  pub trace : has_trace_line text ≡ true
  pub exercise : len ≡ length (exercise_part text)
  pub number : next ≡ length (lines_before text) + 2
  pub behind : text_lines rest ≡ lines_behind text
  pub room : next + length rest ≤ length text + 2

pub searched-trace : (text rest behind line : List ℕ) (count len : ℕ) → IsSearched text rest count len → lines_of rest ≡ line ∷ lines_of behind
    → length behind < length rest → is_trace_line line ≡ true → IsTraceNext text len (count + 1 + 1) behind
searched-trace text rest behind line count len h cut shorter is =
    let ls = lines_of behind in
    let none : lines_before rest ≡ [] = ap (before_first is_trace_line) cut ∙ before-here is_trace_line line ls is in
    let number = ap length none in
    let part = ap (λ l. length (joined l)) none in
    let h-before = h.before in
    let h-exercise = h.exercise in
    let h-room = h.room in
    record {
      trace = h.trace ∙ ap (list_any is_trace_line) cut ∙ any-here is_trace_line line ls is;
      exercise = omega arith;
      number = omega arith;
      behind = sym (h.behind ∙ ap (λ l. map without_cr (after_first is_trace_line l)) cut ∙ ap (map without_cr) (after-here is_trace_line line ls is));
      room = omega arith;
    }
