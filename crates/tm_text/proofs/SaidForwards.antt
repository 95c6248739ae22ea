-- What the lines of a text without a faulty line say is how its exercise is spelled forwards.
use Rattle.std.proofs.Common.{◌≡◌, ℕ, suc, Bool, true, false, ◌&&◌, List, [], ◌∷◌, ◌++◌, length, map, find, filter_map, bytes_eq, Option, Some, None, option_and_then, option_map, refl, sym, ap, subst, ◌∙◌}
use Rattle.std.specs.List.{cons_option}
use Rattle.std.proofs.lemmas.List.{append_assoc}
use Rattle.tm_base.specs.declared.kinds.Kind.{Kind}
use Rattle.tm_base.specs.declared.kinds.Kind.TheVariants as kind
use Rattle.tm_programs.specs.declared.instructions.Instruction.{Instruction}
use Rattle.tm_programs.specs.declared.instructions.Instruction.TheVariants as instruction
use Rattle.tm_programs.specs.Instructions.{Block, with_call}
use Rattle.tm_lines.specs.declared.first_words.Declarator.{Declarator}
use Rattle.tm_lines.specs.declared.first_words.Declarator.TheVariants as declares
use Rattle.tm_lines.specs.declared.first_words.FirstWord.{FirstWord}
use Rattle.tm_lines.specs.declared.first_words.FirstWord.TheVariants as first
use Rattle.tm_lines.specs.FirstWords.{first_word_of}
use Rattle.tm_lines.specs.LineFaults.{Place, after_end, first_place, place_after, place_by}
use Rattle.tm_lines.specs.NamedLines.{declarator_of, declares_well, kind_named, kind_said, word_at}
use Rattle.tm_lines.specs.TextFaults.{first_fault, named_in, said_words, text_lines}
use Rattle.tm_text.specs.declared.exercises.Declaration.{Declaration}
use Rattle.tm_text.specs.Exercises.{IsKindRead, thread_of_kind}
use Rattle.tm_text.specs.SaidLines.{line_by, line_said, lines_said}
use Rattle.tm_text.specs.SpelledLines.{SpelledLine, end_line, line_of_instruction, line_of_kind, spelled}
use Rattle.tm_text.specs.Texts.{declarations_said, exercise_of, instruction_said, next_thread, programs_by, programs_said, put_instruction}
use Rattle.tm_text.proofs.Faultless.{Faultless, Fine, faultless, place-first}
use Rattle.tm_text.proofs.NamedNumbers.{name_of-number, named_is}
use Rattle.tm_text.proofs.SaidNames.{declarations-more, declarations-same, declared}
use Rattle.tm_text.proofs.SaidPrograms.{is_inside, is_outside, length-with_call}
use Rattle.tm_text.proofs.SaidValueLemmas.{IsKnown, declaration_spelled, instruction_spelled, says}
use Rattle.tm_text.proofs.SaidValues.{is_thread, kind_read, not_thread}
use Rattle.tm_text.proofs.SpelledForwards.{behind, spelled-from, spelled_from}
use Rattle.tm_text.proofs.WellFormedTexts.{well_formed-said}

abbrev pub said : List (List (List ℕ)) → List SpelledLine
said wss = filter_map line_said wss

said-first : (ws : List (List ℕ)) (wss : List (List (List ℕ))) (f : FirstWord) → first_word_of (word_at 0 ws) ≡ Some f → said (ws ∷ wss) ≡ says f ws ∷ said wss
said-first ws wss f e = ap (λ r. cons_option (line_by r ws) (said wss)) e

module _ (all : List Declaration) where
  -- the lines that are left are those of what is left, inside a thread or outside of each
  abbrev SpellsLeft : Bool → List (List Instruction) → List Declaration → List SpelledLine → Type 0
  SpellsLeft false qs ds lines = lines ≡ spelled_from all qs ds
  SpellsLeft true [] ds lines = ⊥
  SpellsLeft true (q ∷ qs) ds lines = lines ≡ map (line_of_instruction all) q ++ end_line ∷ spelled_from all qs ds

  abbrev SpellsAt : Bool → ℕ → ℕ → List (List (List ℕ)) → Type 0
  SpellsAt b depth t wss = SpellsLeft b (programs_said all depth wss) (declarations_said t wss) (said wss)

  abbrev Later : Place → List (List (List ℕ)) → Type 0
  Later p wss = (t : ℕ) → SpellsAt p.inside (length p.blocks) t wss

  moved : (b c : Bool) (qs rs : List (List Instruction)) (ds es : List Declaration) (ls ms : List SpelledLine) → b ≡ c → rs ≡ qs → es ≡ ds → ms ≡ ls → SpellsLeft c qs ds ls → SpellsLeft b rs es ms
  moved b c qs rs ds es ls ms inside programs objects lines h =
      subst (λ x. SpellsLeft x rs es ms) (sym inside) (subst (λ x. SpellsLeft c x es ms) (sym programs) (subst (λ x. SpellsLeft c qs x ms) (sym objects) (subst (λ x. SpellsLeft c qs ds x) (sym lines) h)))

  programs-first : (depth : ℕ) (ws : List (List ℕ)) (wss : List (List (List ℕ))) (f : FirstWord) → first_word_of (word_at 0 ws) ≡ Some f → programs_said all depth (ws ∷ wss) ≡ programs_by all (Some f) depth ws (λ d. programs_said all d wss)
  programs-first depth ws wss f e = ap (λ found. programs_by all found depth ws (λ d. programs_said all d wss)) e

  -- a thread's line comes before its program's
  begun : (t : ℕ) (ws : List (List ℕ)) (qs : List (List Instruction)) (ds : List Declaration) (ls : List SpelledLine) → SpellsLeft true qs ds ls
      → line_of_kind (word_at 1 ws) (kind_said t declares.Thread ws) ∷ ls ≡ spelled_from all qs (declared t declares.Thread ws ∷ ds)
  begun t ws [] ds ls h = absurd h
  begun t ws (q ∷ qs) ds ls h =
      ap (λ rest. line_of_kind (word_at 1 ws) (kind_said t declares.Thread ws) ∷ rest) (h ∙ sym (append_assoc (map (line_of_instruction all) q) (end_line ∷ []) (spelled_from all qs ds)))

  behind-other : (k : Kind) (qs : List (List Instruction)) (rest : List (List Instruction) → List SpelledLine) → thread_of_kind k ≡ None → behind all k qs rest ≡ rest qs
  behind-other (kind.Thread own held) qs rest h = absurd (cc)
  behind-other k qs rest h = refl

  -- one instruction in front
  put : (i : Instruction) (qs : List (List Instruction)) (ds : List Declaration) (ls : List SpelledLine) → SpellsLeft true qs ds ls → SpellsLeft true (put_instruction i qs) ds (line_of_instruction all i ∷ ls)
  put i [] ds ls h = h
  put i (q ∷ qs) ds ls h = ap (λ rest. line_of_instruction all i ∷ rest) h

  by_instruction : (p : Place) (t depth : ℕ) (ws : List (List ℕ)) (wss : List (List (List ℕ))) (f : FirstWord) (i : Instruction) → first_word_of (word_at 0 ws) ≡ Some f → declarator_of (Some f) ≡ None → p.inside ≡ true
      → programs_by all (Some f) (length p.blocks) ws (λ d. programs_said all d wss) ≡ put_instruction i (programs_said all depth wss) → line_of_instruction all i ≡ says f ws
      → SpellsAt p.inside depth t wss → SpellsAt p.inside (length p.blocks) t (ws ∷ wss)
  by_instruction p t depth ws wss f i e none within is line later =
      let qs = programs_said all depth wss in
      let ds = declarations_said t wss in
      moved p.inside true (put_instruction i qs) (programs_said all (length p.blocks) (ws ∷ wss)) ds (declarations_said t (ws ∷ wss)) (line_of_instruction all i ∷ said wss) (said (ws ∷ wss)) within (programs-first (length p.blocks) ws wss f e ∙ is)
      (declarations-same t ws wss (ap declarator_of e ∙ none)) (said-first ws wss f e ∙ ap (λ l. l ∷ said wss) (sym line)) (put i qs ds (said wss) (subst (λ b. SpellsLeft b qs ds (said wss)) within later))

  by_end : (p : Place) (t : ℕ) (ws : List (List ℕ)) (wss : List (List (List ℕ))) (blocks : List Block) → p.inside ≡ true → Later (after_end p blocks) wss
      → SpellsLeft true (programs_by all (Some first.End) (length blocks) ws (λ d. programs_said all d wss)) (declarations_said t wss) (end_line ∷ said wss)
  by_end p t ws wss [] within later = ap (λ rest. end_line ∷ rest) (later t)
  by_end p t ws wss (block ∷ blocks) within later =
      put instruction.End (programs_said all (length blocks) wss) (declarations_said t wss) (said wss) (subst (λ b. SpellsAt b (length blocks) t wss) within (later t))

  by_other : (p : Place) (t : ℕ) (ws : List (List ℕ)) (wss : List (List (List ℕ))) (d : Declarator) (k : Option Kind) → is_thread d ≡ false → next_thread t d ≡ t → first_word_of (word_at 0 ws) ≡ Some (first.Declares d) → p.inside ≡ false → Fine p (first.Declares d) k ws
      → SpellsAt false 0 t wss → SpellsAt p.inside (length p.blocks) t (ws ∷ wss)
  by_other p t ws wss d k other next e without fine later =
      let qs = programs_said all 0 wss in
      let one = declared t d ws in
      let rest : spelled_from all qs (one ∷ declarations_said t wss) ≡ line_of_kind one.name one.kind ∷ spelled_from all qs (declarations_said t wss) =
      ap (λ ls. line_of_kind one.name one.kind ∷ ls) (behind-other one.kind qs (λ after. spelled_from all after (declarations_said t wss)) (not_thread t d (word_at 2 ws) (word_at 3 ws) other)) in
      moved p.inside false qs (programs_said all (length p.blocks) (ws ∷ wss)) (one ∷ declarations_said t wss) (declarations_said t (ws ∷ wss)) (line_of_kind one.name one.kind ∷ said wss) (said (ws ∷ wss)) without (programs-first (length p.blocks) ws wss (first.Declares d) e)
      (declarations-more t ws wss d (ap declarator_of e) ∙ ap (λ u. one ∷ declarations_said u wss) next) (said-first ws wss (first.Declares d) e ∙ ap (λ l. l ∷ said wss) (sym (declaration_spelled p t d k ws fine)))
      (ap (λ ls. line_of_kind one.name one.kind ∷ ls) later ∙ sym rest)

  -- one line more
  by_first : (p : Place) (ws : List (List ℕ)) (wss : List (List (List ℕ))) (k : Option Kind) (f : FirstWord) → first_word_of (word_at 0 ws) ≡ Some f → IsKnown all k (word_at 1 ws) → Fine p f k ws → Later (place_after p f (word_at 1 ws)) wss → Later p (ws ∷ wss)
  by_first p ws wss k (first.Declares declares.Thread) e known fine later t =
      let without = is_outside all p.inside _ fine.allowed in
      let one = declared t declares.Thread ws in
      let qs = programs_said all 0 wss in
      moved p.inside false qs (programs_said all (length p.blocks) (ws ∷ wss)) (one ∷ declarations_said (suc t) wss) (declarations_said t (ws ∷ wss)) (line_of_kind one.name one.kind ∷ said wss) (said (ws ∷ wss)) without (programs-first (length p.blocks) ws wss (first.Declares declares.Thread) e)
      (declarations-more t ws wss declares.Thread (ap declarator_of e)) (said-first ws wss (first.Declares declares.Thread) e ∙ ap (λ l. l ∷ said wss) (sym (declaration_spelled p t declares.Thread k ws fine)))
      (begun t ws qs (declarations_said (suc t) wss) (said wss) (later (suc t)))
  by_first p ws wss k (first.Declares d) e known fine later t = by_other p t ws wss d k refl refl e (is_outside all p.inside _ fine.allowed) fine (later t)
  by_first p ws wss k (first.Calls c) e known fine later t =
      let same = length-with_call all p.blocks in
      by_instruction p t (length (with_call p.blocks)) ws wss (first.Calls c) (instruction_said all (first.Calls c) ws) e refl (is_inside all p.inside _ fine.allowed)
      (ap (λ n. put_instruction (instruction_said all (first.Calls c) ws) (programs_said all n wss)) (sym same)) (instruction_spelled p all (first.Calls c) k ws refl known fine) (later t)
  by_first p ws wss k first.End e known fine later t =
      let within = is_inside all p.inside _ fine.allowed in
      moved p.inside true (programs_by all (Some first.End) (length p.blocks) ws (λ d. programs_said all d wss)) (programs_said all (length p.blocks) (ws ∷ wss)) (declarations_said t wss) (declarations_said t (ws ∷ wss)) (end_line ∷ said wss) (said (ws ∷ wss)) within
      (programs-first (length p.blocks) ws wss first.End e) (declarations-same t ws wss (ap declarator_of e)) (said-first ws wss first.End e) (by_end p t ws wss p.blocks within later)
  by_first p ws wss k first.Repeat e known fine later t =
      by_instruction p t (suc (length p.blocks)) ws wss first.Repeat (instruction_said all first.Repeat ws) e refl (is_inside all p.inside _ fine.allowed) refl (instruction_spelled p all first.Repeat k ws refl known fine) (later t)
  by_first p ws wss k first.While e known fine later t =
      by_instruction p t (suc (length p.blocks)) ws wss first.While (instruction_said all first.While ws) e refl (is_inside all p.inside _ fine.allowed) refl (instruction_spelled p all first.While k ws refl known fine) (later t)
  by_first p ws wss k first.If e known fine later t =
      by_instruction p t (suc (length p.blocks)) ws wss first.If (instruction_said all first.If ws) e refl (is_inside all p.inside _ fine.allowed) refl (instruction_spelled p all first.If k ws refl known fine) (later t)
  by_first p ws wss k f e known fine later t =
      by_instruction p t (length p.blocks) ws wss f (instruction_said all f ws) e refl (is_inside all p.inside _ fine.allowed) refl (instruction_spelled p all f k ws refl known fine) (later t)

  pub said_from : (named : List ℕ → Option Kind) → ((name : List ℕ) → IsKnown all (named name) name) → (p : Place) (wss : List (List (List ℕ))) → Faultless named p wss → Later p wss
  said_from named known p [] h t = subst (λ b. SpellsLeft b [] [] []) (sym h) refl
  said_from named known p (ws ∷ wss) h t =
      by_first p ws wss (named (word_at 1 ws)) h.0.first h.0.is_first (known (word_at 1 ws)) h.0.fine
      (subst (λ q. Later q wss) (place-first p ws h.0.first h.0.is_first) (said_from named known (place_by p ws) wss h.1)) t

-- the kind of a name of the text is one that a text can declare
read_one : (own : Option Declarator) (ws : List (List ℕ)) (k : Kind) → option_map (λ d. kind_said 0 d ws) own ≡ Some k → IsKindRead k
read_one None ws k h = absurd (cc)
read_one (Some d) ws k h = let is : kind_said 0 d ws ≡ k = cc in subst IsKindRead is (kind_read 0 d (word_at 2 ws) (word_at 3 ws))

read_by : (found : Option (List (List ℕ))) (k : Kind) → option_and_then (λ ws. option_map (λ d. kind_said 0 d ws) (declarator_of (first_word_of (word_at 0 ws)))) found ≡ Some k → IsKindRead k
read_by None k h = absurd (cc)
read_by (Some ws) k h = read_one (declarator_of (first_word_of (word_at 0 ws))) ws k h

known_said : (wss : List (List (List ℕ))) (name : List ℕ) → IsKnown (declarations_said 1 wss) (kind_named wss name) name
known_said wss name k h =
    (read_by (find (λ ws. declares_well ws && bytes_eq (word_at 1 ws) name) wss) k h, name_of-number (declarations_said 1 wss) name (named_is 1 wss name k h))

-- the lines of a text without a faulty line spell its exercise
pub spells : (bytes : List ℕ) → first_fault bytes ≡ None → lines_said bytes ≡ spelled (exercise_of bytes)
spells bytes h =
    let wss = said_words (text_lines bytes) in
    let all = declarations_said 1 wss in
    said_from all (named_in (text_lines bytes)) (known_said wss) first_place wss (faultless bytes h) 1
    ∙ sym (spelled-from (exercise_of bytes) (well_formed-said bytes h))
