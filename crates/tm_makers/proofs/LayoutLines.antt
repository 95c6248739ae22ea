-- The lines of a layout, part by part, and where its objects stand.
use Rattle.std.proofs.Common.{◌≡◌, ◌+◌, ◌≤◌, ◌<◌, ℕ, zero, suc, true, false, ◌&&◌, List, [], ◌∷◌, ◌++◌, map, drop, flat_map, slice_get, slice_index_or, Some, None, pos, arith, refl, ap, ◌∙◌}
use Rattle.std.specs.List.{list_all, range_with_len}
use Rattle.std.proofs.lemmas.List.{append-nil}
use Rattle.std.proofs.lemmas.List.Concat.{flat_map-append}
use Rattle.tm_base.specs.declared.kinds.Kind.{Kind}
use Rattle.tm_base.specs.declared.kinds.Kind.TheVariants as kind
use Rattle.tm_base.specs.declared.opcodes.Opcode.{Opcode}
use Rattle.tm_programs.specs.declared.instructions.Instruction.{Instruction}
use Rattle.tm_programs.specs.declared.instructions.Instruction.TheVariants as instruction
use Rattle.tm_programs.specs.declared.instructions.Operand.{Operand}
use Rattle.tm_programs.specs.Instructions.{IsNested}
use Rattle.tm_lines.specs.declared.limits.TheConstants.{MOST_INSTRUCTIONS}
use Rattle.tm_lines.specs.declared.first_words.FirstWord.TheVariants as first
use Rattle.tm_text.specs.declared.exercises.Declaration.{Declaration}
use Rattle.tm_text.specs.declared.values.Value.TheVariants as value
use Rattle.tm_text.specs.Exercises.{ExerciseView, count_of, is_call_of, is_instruction_on, kinds_of, name_at, takes, thread_of_kind}
use Rattle.tm_text.specs.SpelledLines.{SpelledLine, end_line, line_of_instruction, line_of_kind, lines_behind, lines_of_object, lines_of_program, spelled, values_of_operand}
use Rattle.tm_makers.specs.Drafts.{Part, Object, Thread}
use Rattle.tm_makers.specs.LineForms.{numbered, thread}
use Rattle.tm_makers.proofs.Layouts.{AllOf, Layout, SoundLayout, SoundPart, SoundProgram, declarations, declared, parts_of}
use Rattle.tm_makers.proofs.LayoutParts.{programs_in}
use Rattle.tm_makers.proofs.Sizes.{true-le}
use Rattle.tm_makers.proofs.LayoutExercises.{exercise_of, sound_parts}

-- the lines of a part, where these objects are declared
abbrev pub lines_of_part : List Declaration → Part → List SpelledLine
lines_of_part ds (Object name kind) = line_of_kind name kind ∷ []
lines_of_part ds (Thread name program) = line_of_kind name (kind.Thread 1 false) ∷ lines_of_program ds program

nothing-behind : (x : ExerciseView) (k : Kind) → thread_of_kind k ≡ None → lines_behind x k ≡ []
nothing-behind x (kind.Thread own held) h = absurd cc
nothing-behind x _ h = refl

at-drop : (qs rest : List (List Instruction)) (q : List Instruction) (n : ℕ) → drop n qs ≡ q ∷ rest → (slice_index_or qs n [] ≡ q) × (drop (suc n) qs ≡ rest)
at-drop [] rest q zero h = absurd cc
at-drop [] rest q (suc n) h = absurd cc
at-drop (p ∷ qs) rest q zero h = (cc, cc)
at-drop (p ∷ qs) rest q (suc n) h = at-drop qs rest q n h

lines-from : (x : ExerciseView) (n : ℕ) (ps : List Part) → AllOf (SoundPart x.objects) ps → drop n x.programs ≡ programs_in ps
    → flat_map (lines_of_object x) (declarations (suc n) ps) ≡ flat_map (lines_of_part x.objects) ps
lines-from x n [] sound left = refl
lines-from x n (Object name k ∷ ps) sound left =
    ap (λ ls. line_of_kind name k ∷ (ls ++ flat_map (lines_of_object x) (declarations (suc n) ps))) (nothing-behind x k sound.0.1)
    ∙ ap (λ ls. line_of_kind name k ∷ ls) (lines-from x n ps sound.1 left)
lines-from x n (Thread name program ∷ ps) sound left =
    let here = at-drop x.programs (programs_in ps) program n left in
    ap (λ q. line_of_kind name (kind.Thread 1 false) ∷ (lines_of_program x.objects q ++ flat_map (lines_of_object x) (declarations (suc (suc n)) ps))) here.0
    ∙ ap (λ ls. line_of_kind name (kind.Thread 1 false) ∷ (lines_of_program x.objects program ++ ls)) (lines-from x (suc n) ps sound.1 here.1)

-- what the exercise of a sound layout is spelled by
pub spelled-parts : (l : Layout) (lines : List SpelledLine) → SoundLayout l → flat_map (lines_of_part (declared l)) (parts_of l) ≡ lines → spelled (exercise_of (parts_of l)) ≡ lines
spelled-parts l lines sound is = lines-from (exercise_of (parts_of l)) 0 (parts_of l) (sound_parts l sound) refl ∙ is

-- ---- the lines of a group, and of what follows it

pub lines-then : (ds : List Declaration) (ps rest : List Part) (lines more : List SpelledLine) → flat_map (lines_of_part ds) ps ≡ lines → flat_map (lines_of_part ds) rest ≡ more
    → flat_map (lines_of_part ds) (ps ++ rest) ≡ lines ++ more
lines-then ds ps rest lines more here later =
    flat_map-append (lines_of_part ds) ps rest ∙ ap (λ ls. ls ++ flat_map (lines_of_part ds) rest) here ∙ ap (λ ls. lines ++ ls) later

pub lines-last : (ds : List Declaration) (ps : List Part) (lines : List SpelledLine) → flat_map (lines_of_part ds) ps ≡ lines → flat_map (lines_of_part ds) (ps ++ []) ≡ lines
lines-last ds ps lines here = ap (flat_map (lines_of_part ds)) (append-nil ps) ∙ here

pub lines-many : (ds : List Declaration) (part : ℕ → Part) (f : ℕ → List SpelledLine) (a n : ℕ) → ((i : ℕ) → a ≤ i → i < a + n → lines_of_part ds (part i) ≡ f i)
    → flat_map (lines_of_part ds) (map part (range_with_len a n)) ≡ flat_map f (range_with_len a n)
lines-many ds part f a zero h = refl
lines-many ds part f a (suc n) h =
    ap (λ ls. ls ++ flat_map (lines_of_part ds) (map part (range_with_len (a + 1) n))) (h a (omega arith) (omega arith))
    ∙ ap (λ ls. f a ++ ls) (lines-many ds part f (a + 1) n (λ i low high. h i (omega arith) (omega arith)))

-- objects, each with a line of its own
pub lines-objects : (ds : List Declaration) (word : List ℕ) (k : ℕ → Kind) (a n : ℕ)
    → flat_map (lines_of_part ds) (map (λ i. Object (numbered word i) (k i)) (range_with_len a n)) ≡ map (λ i. line_of_kind (numbered word i) (k i)) (range_with_len a n)
lines-objects ds word k a zero = refl
lines-objects ds word k a (suc n) = ap (λ ls. line_of_kind (numbered word a) (k a) ∷ ls) (lines-objects ds word k (a + 1) n)

-- ---- where objects stand

-- the object with this number has this name and this kind
pub record At (ds : List Declaration) (o : ℕ) (name : List ℕ) (k : Kind) : Type 0 where
  pub at : slice_get ds o ≡ Some (record { name = name; kind = k })

here : (word : List ℕ) (k : ℕ → Kind) (a n : ℕ) (rest : List Part) (t o j : ℕ) → o < n → a + o ≡ j
    → slice_get (declarations t (map (λ i. Object (numbered word i) (k i)) (range_with_len a n) ++ rest)) o ≡ Some (record { name = numbered word j; kind = k j })
here word k a zero rest t o j h e = absurd (omega arith)
here word k a (suc n) rest t zero j h e =
    let same : a ≡ j = omega arith in
    ap (λ i. Some (record { name = numbered word i; kind = k i })) same
here word k a (suc n) rest t (suc o) j h e = here word k (a + 1) n rest t o j (omega arith) (omega arith)

-- object j of those that are numbered from 0
pub object-here : (word : List ℕ) (k : ℕ → Kind) (n : ℕ) (rest : List Part) (t j : ℕ) → j < n
    → At (declarations t (map (λ i. Object (numbered word i) (k i)) (range_with_len 0 n) ++ rest)) j (numbered word j) (k j)
object-here word k n rest t j h = record { at = here word k 0 n rest t j j h (omega arith) }

later : (word : List ℕ) (k : ℕ → Kind) (a n : ℕ) (rest : List Part) (t o p : ℕ) → n + o ≡ p
    → slice_get (declarations t (map (λ i. Object (numbered word i) (k i)) (range_with_len a n) ++ rest)) p ≡ slice_get (declarations t rest) o
later word k a zero rest t o p e = let same : p ≡ o = omega arith in ap (slice_get (declarations t rest)) same
later word k a (suc n) rest t o zero e = absurd (omega arith)
later word k a (suc n) rest t o (suc p) e = later word k (a + 1) n rest t o p (omega arith)

-- and the objects behind them
pub object-later : (word : List ℕ) (k : ℕ → Kind) (n : ℕ) (rest : List Part) (t o p : ℕ) (name : List ℕ) (kind : Kind) → n + o ≡ p → At (declarations t rest) o name kind
    → At (declarations t (map (λ i. Object (numbered word i) (k i)) (range_with_len 0 n) ++ rest)) p name kind
object-later word k n rest t o p name kind e behind = record { at = later word k 0 n rest t o p e ∙ behind.at }

get-kinds : (ds : List Declaration) (o : ℕ) (d : Declaration) → slice_get ds o ≡ Some d → slice_get (kinds_of ds) o ≡ Some d.kind
get-kinds [] o d h = absurd cc
get-kinds (c ∷ ds) zero d h = let same : c ≡ d = cc in ap (λ (e : Declaration). Some e.kind) same
get-kinds (c ∷ ds) (suc o) d h = get-kinds ds o d h

-- ---- what instructions say

-- the instruction may stand in a program, and this is its line
pub record Says (ds : List Declaration) (i : Instruction) (line : SpelledLine) : Type 0 where
  pub line_is : line_of_instruction ds i ≡ line
  pub fits : is_instruction_on ds i ≡ true

abbrev pub AllSay : List Declaration → List Instruction → List SpelledLine → Type 0
AllSay ds [] [] = Unit {0}
AllSay ds (i ∷ is) (line ∷ lines) = Says ds i line × AllSay ds is lines
AllSay ds is lines = ⊥

-- a call of an object that has it
pub a_call : {ds : List Declaration} {o : ℕ} {name : List ℕ} {k : Kind} {code : Opcode} {with : Operand} → At ds o name k → (is_call_of (Some k) code with && takes code with) ≡ true
    → Says ds (instruction.Call o code with) (record { first = first.Calls code; values = value.Name name ∷ values_of_operand with })
a_call {ds} {o} {name} {k} {code} {with} object fits = record {
  line_is = ap (λ d. record { first = first.Calls code; values = value.Name (name_at d) ∷ values_of_operand with }) object.at;
  fits = ap (λ d. is_call_of d code with && takes code with) (get-kinds ds o (record { name = name; kind = k }) object.at) ∙ fits;
}

pub ends-say : {ds : List Declaration} → Says ds instruction.End end_line
ends-say = record { line_is = refl; fits = refl }

pub repeats-say : {ds : List Declaration} (turns : ℕ) → turns ≤ 100 → Says ds (instruction.Repeat turns) (record { first = first.Repeat; values = value.Number (pos turns) ∷ [] })
repeats-say turns few = record { line_is = refl; fits = true-le turns 1000000 (omega arith) }

lines-say : (ds : List Declaration) (is : List Instruction) (lines : List SpelledLine) → AllSay ds is lines → map (line_of_instruction ds) is ≡ lines
lines-say ds [] [] h = refl
lines-say ds [] (line ∷ lines) h = absurd h
lines-say ds (i ∷ is) [] h = absurd h
lines-say ds (i ∷ is) (line ∷ lines) h = let more = lines-say ds is lines h.1 in ap (λ l. l ∷ map (line_of_instruction ds) is) h.0.line_is ∙ ap (λ ls. line ∷ ls) more

fits-say : (ds : List Declaration) (is : List Instruction) (lines : List SpelledLine) → AllSay ds is lines → list_all (is_instruction_on ds) is ≡ true
fits-say ds [] lines h = refl
fits-say ds (i ∷ is) [] h = absurd h
fits-say ds (i ∷ is) (line ∷ lines) h = ap (λ b. b && list_all (is_instruction_on ds) is) h.0.fits ∙ fits-say ds is lines h.1

-- a thread's program, and the lines in it
pub record Runs (ds : List Declaration) (program : List Instruction) (lines : List SpelledLine) : Type 0 where
  pub sound : SoundProgram ds program
  pub lines_are : map (line_of_instruction ds) program ≡ lines

pub runs : (ds : List Declaration) (program : List Instruction) (lines : List SpelledLine) → IsNested program → count_of program ≤ MOST_INSTRUCTIONS → AllSay ds program lines → Runs ds program lines
runs ds program lines nested short says = record {
  sound = record { nested = nested; short = short; fits = fits-say ds program lines says };
  lines_are = lines-say ds program lines says;
}

-- the lines of a thread
pub thread-lines : (ds : List Declaration) (name : List ℕ) (program : List Instruction) (lines : List SpelledLine) → Runs ds program lines → lines_of_part ds (Thread name program) ≡ thread name lines
thread-lines ds name program lines r = ap (thread name) r.lines_are
