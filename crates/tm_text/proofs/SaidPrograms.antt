-- The programs of a text without a faulty line.
use Rattle.std.proofs.Common.{◌≡◌, ℕ, zero, suc, ◌+◌, ◌≤◌, Bool, true, false, not, ◌||◌, nat_le, List, [], ◌∷◌, length, filter, filter_map, slice_index_or, Option, Some, None, option_and_then, refl, sym, ap, subst, ◌∙◌, arith}
use Rattle.std.specs.List.{cons_option, list_all}
use Rattle.std.proofs.lemmas.Bool.{and_from, leb-false, lt-ltb}
use Rattle.std.proofs.lemmas.List.Sums.{length-filter}
use Rattle.tm_base.specs.declared.kinds.Kind.{Kind}
use Rattle.tm_programs.specs.declared.instructions.Instruction.{Instruction}
use Rattle.tm_programs.specs.declared.instructions.Instruction.TheVariants as instruction
use Rattle.tm_programs.specs.declared.limits.TheConstants.{MOST_BLOCKS}
use Rattle.tm_programs.specs.Instructions.{Block, Loop, Choice, blocks_after, blocks_of, opened, with_call}
use Rattle.tm_lines.specs.declared.first_words.Declarator.{Declarator}
use Rattle.tm_lines.specs.declared.first_words.Declarator.TheVariants as declares
use Rattle.tm_lines.specs.declared.first_words.FirstWord.{FirstWord}
use Rattle.tm_lines.specs.declared.first_words.FirstWord.TheVariants as first
use Rattle.tm_lines.specs.declared.limits.TheConstants.{MOST_INSTRUCTIONS}
use Rattle.tm_lines.specs.FirstWords.{first_word_of}
use Rattle.tm_lines.specs.LineFaults.{Place, after_end, ends_idle, place_after, place_by}
use Rattle.tm_lines.specs.NamedLines.{declarator_of, word_at}
use Rattle.tm_text.specs.declared.exercises.Declaration.{Declaration}
use Rattle.tm_text.specs.Exercises.{count_of, is_counted, is_instruction_on, thread_of}
use Rattle.tm_text.specs.Texts.{declarations_said, instruction_said, next_thread, programs_by, programs_said, put_instruction}
use Rattle.tm_text.proofs.Faultless.{Faultless, Fine, place-first}
use Rattle.tm_text.proofs.SaidValues.{is_thread, not_thread}
use Rattle.tm_text.proofs.SaidNames.{declarations-more, declarations-same, declared}
use Rattle.tm_text.proofs.SaidCalls.{AreFound, instruction_fine}

-- how many threads lines declare
abbrev threads_in : ℕ → List (List (List ℕ)) → ℕ
threads_in t wss = length (filter_map thread_of (declarations_said t wss))

threads-thread : (t : ℕ) (ws : List (List ℕ)) (wss : List (List (List ℕ))) → first_word_of (word_at 0 ws) ≡ Some (first.Declares declares.Thread) → threads_in t (ws ∷ wss) ≡ suc (threads_in (suc t) wss)
threads-thread t ws wss e = ap (λ ds. length (filter_map thread_of ds)) (declarations-more t ws wss declares.Thread (ap declarator_of e))

threads-other : (t : ℕ) (ws : List (List ℕ)) (wss : List (List (List ℕ))) (d : Declarator) → first_word_of (word_at 0 ws) ≡ Some (first.Declares d) → is_thread d ≡ false → next_thread t d ≡ t → threads_in t (ws ∷ wss) ≡ threads_in t wss
threads-other t ws wss d e other next =
    ap (λ ds. length (filter_map thread_of ds)) (declarations-more t ws wss d (ap declarator_of e) ∙ ap (λ u. declared t d ws ∷ declarations_said u wss) next)
    ∙ ap (λ r. length (cons_option r (filter_map thread_of (declarations_said t wss)))) (not_thread t d (word_at 2 ws) (word_at 3 ws) other)

threads-same : (t : ℕ) (ws : List (List ℕ)) (wss : List (List (List ℕ))) (f : FirstWord) → first_word_of (word_at 0 ws) ≡ Some f → declarator_of (Some f) ≡ None → threads_in t (ws ∷ wss) ≡ threads_in t wss
threads-same t ws wss f e none = ap (λ ds. length (filter_map thread_of ds)) (declarations-same t ws wss (ap declarator_of e ∙ none))

module _ (ds : List Declaration) where
  -- what is left of a program, before which there were so many instructions, and these blocks are open
  pub record Good (n : ℕ) (blocks : List Block) (items : List Instruction) : Type 0 where
    pub short : n + length (filter is_counted items) ≤ MOST_INSTRUCTIONS
    pub nested : blocks_of blocks items ≡ Some []
    pub fine : list_all (is_instruction_on ds) items ≡ true

  abbrev pub AllGood : List (List Instruction) → Type 0
  AllGood [] = Unit {0}
  AllGood (q ∷ qs) = Good 0 [] q × AllGood qs

  -- the programs that are left, inside a thread or outside of each; so many threads are declared later
  abbrev Left : Bool → ℕ → List Block → ℕ → List (List Instruction) → Type 0
  Left false n blocks m qs = AllGood qs × (length qs ≡ m)
  Left true n blocks m [] = ⊥
  Left true n blocks m (q ∷ qs) = Good n blocks q × AllGood qs × (length qs ≡ m)

  -- the program of a thread that begins is one of all
  begun : (m : ℕ) (qs : List (List Instruction)) → Left true 0 [] m qs → AllGood qs × (length qs ≡ suc m)
  begun m [] h = absurd h
  begun m (q ∷ qs) h = ((h.0, h.1), ap suc h.2)

  -- one instruction in front
  put : (i : Instruction) (n k m : ℕ) (blocks after : List Block) (qs : List (List Instruction)) → blocks_after blocks i ≡ Some after → is_instruction_on ds i ≡ true
      → ((items : List Instruction) → n + length (filter is_counted (i ∷ items)) ≡ k + length (filter is_counted items))
      → Left true k after m qs → Left true n blocks m (put_instruction i qs)
  put i n k m blocks after [] stands fine count h = h
  put i n k m blocks after (q ∷ qs) stands fine count h =
      let good = h.0 in
      let short = good.short in
      let longer = count q in (
        record {
          short = omega arith;
          nested = ap (option_and_then (λ now. blocks_of now q)) stands ∙ good.nested;
          fine = and_from (is_instruction_on ds i) (list_all (is_instruction_on ds) q) fine good.fine;
        },
        h.1,
        h.2,
      )

  -- what is left from a place on
  abbrev LeftAt : Place → ℕ → List (List Instruction) → Type 0
  LeftAt p m qs = Left p.inside p.instructions p.blocks m qs

  abbrev Later : Place → List (List (List ℕ)) → Type 0
  Later p wss = (t : ℕ) → p.instructions ≤ MOST_INSTRUCTIONS → LeftAt p (threads_in t wss) (programs_said ds (length p.blocks) wss)

  programs-first : (depth : ℕ) (ws : List (List ℕ)) (wss : List (List (List ℕ))) (f : FirstWord) → first_word_of (word_at 0 ws) ≡ Some f → programs_said ds depth (ws ∷ wss) ≡ programs_by ds (Some f) depth ws (λ d. programs_said ds d wss)
  programs-first depth ws wss f e = ap (λ found. programs_by ds found depth ws (λ d. programs_said ds d wss)) e

  -- the first word stands inside a thread, or outside of each
  pub is_outside : (b x : Bool) → (not (not b) || x) ≡ false → b ≡ false
  is_outside true x h = absurd (cc)
  is_outside false x h = refl

  pub is_inside : (b x : Bool) → (not b || x) ≡ false → b ≡ true
  is_inside true x h = refl
  is_inside false x h = absurd (cc)

  pub length-with_call : (blocks : List Block) → length (with_call blocks) ≡ length blocks
  length-with_call [] = refl
  length-with_call (Loop asks ∷ blocks) = refl
  length-with_call (Choice ∷ blocks) = refl

  opens-well : (block : Block) (blocks : List Block) → nat_le MOST_BLOCKS (length blocks) ≡ false → opened block blocks ≡ Some (block ∷ blocks)
  opens-well block blocks h = let below = leb-false MOST_BLOCKS (length blocks) h in rw (lt-ltb (length blocks) MOST_BLOCKS below) refl

  -- an instruction, after which these blocks are open
  by_instruction : (p : Place) (t : ℕ) (ws : List (List ℕ)) (wss : List (List (List ℕ))) (f : FirstWord) (i : Instruction) (after : List Block) → first_word_of (word_at 0 ws) ≡ Some f → declarator_of (Some f) ≡ None
      → p.inside ≡ true → nat_le MOST_INSTRUCTIONS p.instructions ≡ false → is_counted i ≡ true → blocks_after p.blocks i ≡ Some after → is_instruction_on ds i ≡ true
      → programs_by ds (Some f) (length p.blocks) ws (λ d. programs_said ds d wss) ≡ put_instruction i (programs_said ds (length after) wss)
      → (p.instructions + 1 ≤ MOST_INSTRUCTIONS → Left p.inside (p.instructions + 1) after (threads_in t wss) (programs_said ds (length after) wss))
      → LeftAt p (threads_in t (ws ∷ wss)) (programs_said ds (length p.blocks) (ws ∷ wss))
  by_instruction p t ws wss f i after e none inside limit counted stands fine is later =
      let below = leb-false MOST_INSTRUCTIONS p.instructions limit in
      let n = p.instructions in
      let rest = programs_said ds (length after) wss in
      let count : (items : List Instruction) → n + length (filter is_counted (i ∷ items)) ≡ (n + 1) + length (filter is_counted items) = λ items. rw counted (omega arith) in
      let left : Left true (n + 1) after (threads_in t wss) rest = subst (λ b. Left b (n + 1) after (threads_in t wss) rest) inside (later (omega arith)) in
      let done : Left true n p.blocks (threads_in t wss) (put_instruction i rest) = put i n (n + 1) (threads_in t wss) p.blocks after rest stands fine count left in
      subst (λ b. Left b n p.blocks (threads_in t (ws ∷ wss)) (programs_said ds (length p.blocks) (ws ∷ wss))) (sym inside)
      (subst (λ m. Left true n p.blocks m (programs_said ds (length p.blocks) (ws ∷ wss))) (sym (threads-same t ws wss f e none))
      (subst (λ qs. Left true n p.blocks (threads_in t wss) qs) (sym (programs-first (length p.blocks) ws wss f e ∙ is)) done))

  -- the end of a thread or of a block
  by_end : (p : Place) (t n : ℕ) (ws : List (List ℕ)) (wss : List (List (List ℕ))) (blocks : List Block) → ends_idle first.End blocks ≡ false → n ≤ MOST_INSTRUCTIONS → p.inside ≡ true → n ≡ p.instructions
      → Later (after_end p blocks) wss
      → Left true n blocks (threads_in t wss) (programs_by ds (Some first.End) (length blocks) ws (λ d. programs_said ds d wss))
  by_end p t n ws wss [] idle most inside same later =
      let left = later t (omega arith) in
      (record { short = omega arith; nested = refl; fine = refl }, left.0, left.1)
  by_end p t n ws wss (Loop false ∷ blocks) idle most inside same later = absurd (let no : true ≡ false = idle in cc)
  by_end p t n ws wss (Loop true ∷ blocks) idle most inside same later =
      let few : p.instructions ≤ MOST_INSTRUCTIONS = omega arith in
      put instruction.End n n (threads_in t wss) (Loop true ∷ blocks) blocks (programs_said ds (length blocks) wss) refl refl (λ items. refl)
      (subst (λ k. Left true k blocks (threads_in t wss) (programs_said ds (length blocks) wss)) (sym same)
      (subst (λ b. Left b p.instructions blocks (threads_in t wss) (programs_said ds (length blocks) wss)) inside (later t few)))
  by_end p t n ws wss (Choice ∷ blocks) idle most inside same later =
      let few : p.instructions ≤ MOST_INSTRUCTIONS = omega arith in
      put instruction.End n n (threads_in t wss) (Choice ∷ blocks) blocks (programs_said ds (length blocks) wss) refl refl (λ items. refl)
      (subst (λ k. Left true k blocks (threads_in t wss) (programs_said ds (length blocks) wss)) (sym same)
      (subst (λ b. Left b p.instructions blocks (threads_in t wss) (programs_said ds (length blocks) wss)) inside (later t few)))

  -- another object than a thread is declared
  by_other : (p : Place) (t : ℕ) (ws : List (List ℕ)) (wss : List (List (List ℕ))) (d : Declarator) → first_word_of (word_at 0 ws) ≡ Some (first.Declares d) → is_thread d ≡ false → next_thread t d ≡ t → p.inside ≡ false
      → AllGood (programs_said ds 0 wss) × (length (programs_said ds 0 wss) ≡ threads_in t wss)
      → LeftAt p (threads_in t (ws ∷ wss)) (programs_said ds (length p.blocks) (ws ∷ wss))
  by_other p t ws wss d e other next outside later =
      subst (λ b. Left b p.instructions p.blocks (threads_in t (ws ∷ wss)) (programs_said ds (length p.blocks) (ws ∷ wss))) (sym outside)
      (subst (λ m. Left false p.instructions p.blocks m (programs_said ds (length p.blocks) (ws ∷ wss))) (sym (threads-other t ws wss d e other next))
      (subst (λ qs. Left false p.instructions p.blocks (threads_in t wss) qs) (sym (programs-first (length p.blocks) ws wss (first.Declares d) e)) later))

  -- one line more
  by_first : (p : Place) (ws : List (List ℕ)) (wss : List (List (List ℕ))) (k : Option Kind) (f : FirstWord) → first_word_of (word_at 0 ws) ≡ Some f → Fine p f k ws → is_instruction_on ds (instruction_said ds f ws) ≡ true → Later (place_after p f (word_at 1 ws)) wss → Later p (ws ∷ wss)
  by_first p ws wss k (first.Declares declares.Thread) e fine good later t few =
      let outside = is_outside p.inside _ fine.allowed in
      let zero_few : 0 ≤ MOST_INSTRUCTIONS = omega arith in
      let all = begun (threads_in (suc t) wss) (programs_said ds 0 wss) (later (suc t) zero_few) in
      subst (λ b. Left b p.instructions p.blocks (threads_in t (ws ∷ wss)) (programs_said ds (length p.blocks) (ws ∷ wss))) (sym outside)
      (subst (λ m. Left false p.instructions p.blocks m (programs_said ds (length p.blocks) (ws ∷ wss))) (sym (threads-thread t ws wss e))
      (subst (λ qs. Left false p.instructions p.blocks (suc (threads_in (suc t) wss)) qs) (sym (programs-first (length p.blocks) ws wss (first.Declares declares.Thread) e)) all))
  by_first p ws wss k (first.Declares d) e fine good later t few =
      by_other p t ws wss d e refl refl (is_outside p.inside _ fine.allowed) (later t (omega arith))
  by_first p ws wss k (first.Calls c) e fine good later t few =
      let same = length-with_call p.blocks in
      by_instruction p t ws wss (first.Calls c) (instruction_said ds (first.Calls c) ws) (with_call p.blocks) e refl (is_inside p.inside _ fine.allowed) fine.limit refl refl good
      (ap (λ n. put_instruction (instruction_said ds (first.Calls c) ws) (programs_said ds n wss)) (sym same)) (λ most. later t most)
  by_first p ws wss k first.Set e fine good later t few =
      by_instruction p t ws wss first.Set (instruction_said ds first.Set ws) p.blocks e refl (is_inside p.inside _ fine.allowed) fine.limit refl refl good refl (λ most. later t most)
  by_first p ws wss k first.Inc e fine good later t few =
      by_instruction p t ws wss first.Inc (instruction_said ds first.Inc ws) p.blocks e refl (is_inside p.inside _ fine.allowed) fine.limit refl refl good refl (λ most. later t most)
  by_first p ws wss k first.Repeat e fine good later t few =
      by_instruction p t ws wss first.Repeat (instruction_said ds first.Repeat ws) (Loop false ∷ p.blocks) e refl (is_inside p.inside _ fine.allowed) fine.limit refl (opens-well (Loop false) p.blocks fine.depth) good refl (λ most. later t most)
  by_first p ws wss k first.While e fine good later t few =
      by_instruction p t ws wss first.While (instruction_said ds first.While ws) (Loop false ∷ p.blocks) e refl (is_inside p.inside _ fine.allowed) fine.limit refl (opens-well (Loop false) p.blocks fine.depth) good refl (λ most. later t most)
  by_first p ws wss k first.If e fine good later t few =
      by_instruction p t ws wss first.If (instruction_said ds first.If ws) (Choice ∷ p.blocks) e refl (is_inside p.inside _ fine.allowed) fine.limit refl (opens-well Choice p.blocks fine.depth) good refl (λ most. later t most)
  by_first p ws wss k first.End e fine good later t few =
      let inside = is_inside p.inside _ fine.allowed in
      subst (λ b. Left b p.instructions p.blocks (threads_in t (ws ∷ wss)) (programs_said ds (length p.blocks) (ws ∷ wss))) (sym inside)
      (subst (λ m. Left true p.instructions p.blocks m (programs_said ds (length p.blocks) (ws ∷ wss))) (sym (threads-same t ws wss first.End e refl))
      (subst (λ qs. Left true p.instructions p.blocks (threads_in t wss) qs) (sym (programs-first (length p.blocks) ws wss first.End e))
      (by_end p t p.instructions ws wss p.blocks fine.idle few inside refl later)))

  programs_from : (named : List ℕ → Option Kind) → AreFound ds named → (p : Place) (wss : List (List (List ℕ))) → Faultless named p wss → Later p wss
  programs_from named known p [] h t few = subst (λ b. Left b p.instructions p.blocks 0 []) (sym h) (tt, refl)
  programs_from named known p (ws ∷ wss) h t few =
      by_first p ws wss (named (word_at 1 ws)) h.0.first h.0.is_first h.0.fine (instruction_fine ds named known p ws h.0.first h.0.is_first h.0.fine)
      (subst (λ q. Later q wss) (place-first p ws h.0.first h.0.is_first) (programs_from named known (place_by p ws) wss h.1)) t few

  -- outside of each thread, the programs that lines spell are those of the threads that they declare
  pub programs_are : (named : List ℕ → Option Kind) → AreFound ds named → (p : Place) (wss : List (List (List ℕ))) → Faultless named p wss → p.inside ≡ false → p.instructions ≤ MOST_INSTRUCTIONS → (t : ℕ)
      → AllGood (programs_said ds (length p.blocks) wss) × (length (programs_said ds (length p.blocks) wss) ≡ length (filter_map thread_of (declarations_said t wss)))
  programs_are named known p wss h outside few t =
      subst (λ b. Left b p.instructions p.blocks (threads_in t wss) (programs_said ds (length p.blocks) wss)) outside (programs_from named known p wss h t few)

  -- the program of each thread
  pub good_at : (qs : List (List Instruction)) → AllGood qs → (t : ℕ) → Good 0 [] (slice_index_or qs t [])
  good_at [] h t = record { short = omega arith; nested = refl; fine = refl }
  good_at (q ∷ qs) h zero = h.0
  good_at (q ∷ qs) h (suc t) = good_at qs h.1 t

  pub good_short : (items : List Instruction) → Good 0 [] items → count_of items ≤ MOST_INSTRUCTIONS
  good_short items h = let short = h.short in let same = length-filter is_counted items in omega arith
