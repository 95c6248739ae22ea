-- A well-formed exercise is read back from the lines that spell it, and so no two are spelled alike.
use Rattle.std.proofs.lemmas.Option.{slice_get-map}
use Rattle.std.proofs.Common.{option_map, ◌≡◌, ℕ, zero, suc, nat_abs, Bool, true, false, nat_lt, List, [], ◌∷◌, ◌++◌, length, map, filter_map, slice_get, Option, Some, None, option_and_then, refl, sym, ap, subst, ◌∙◌, arith}
use Rattle.std.specs.List.{cons_option, list_all}
use Rattle.std.proofs.lemmas.Bool.{and_parts, cond_both}
use Rattle.std.proofs.lemmas.List.{append_assoc}
use Rattle.tm_base.specs.declared.kinds.Kind.{Kind}
use Rattle.tm_base.specs.declared.kinds.Kind.TheVariants as kind
use Rattle.tm_base.specs.declared.opcodes.Opcode.{Opcode}
use Rattle.tm_base.specs.declared.opcodes.Opcode.TheVariants as opcode
use Rattle.tm_programs.specs.declared.instructions.Instruction.{Instruction}
use Rattle.tm_programs.specs.declared.instructions.Instruction.TheVariants as instruction
use Rattle.tm_programs.specs.declared.instructions.Operand.{Operand}
use Rattle.tm_programs.specs.declared.instructions.Operand.TheVariants as operand
use Rattle.tm_programs.specs.declared.limits.TheConstants.{MOST_BLOCKS}
use Rattle.tm_programs.specs.Instructions.{Block, Loop, Choice, blocks_of, opened, with_call}
use Rattle.tm_lines.specs.declared.first_words.Declarator.{Declarator}
use Rattle.tm_lines.specs.declared.first_words.Declarator.TheVariants as declares
use Rattle.tm_lines.specs.declared.first_words.FirstWord.{FirstWord}
use Rattle.tm_lines.specs.declared.first_words.FirstWord.TheVariants as first
use Rattle.tm_text.specs.declared.exercises.Declaration.{Declaration}
use Rattle.tm_text.specs.declared.values.Value.{Value}
use Rattle.tm_text.specs.declared.values.Value.TheVariants as value
use Rattle.tm_text.specs.Exercises.{ExerciseView, IsWellFormed, is_call_of, is_call_on, is_instruction_on, takes, thread_of, thread_of_kind}
use Rattle.tm_text.specs.SpelledLines.{SpelledLine, end_line, line_of_instruction, line_of_kind, lines_of_program, spelled, values_of_operand}
use Rattle.tm_text.specs.Texts.{next_thread, number_named, put_instruction}
use Rattle.tm_text.proofs.NamedNumbers.{Once, number_of-name}
use Rattle.tm_text.proofs.SaidPrograms.{AllGood, Good, length-with_call}
use Rattle.tm_text.proofs.SpelledForwards.{all_good, Numbered, behind, first_program, later_programs, numbered_other, numbered_thread, numbered_from, spelled-from, spelled_from, threads_count}

-- the kind that a line says by its values after the name
abbrev kind_from : ℕ → Declarator → List Value → Kind
kind_from t declares.Rwlock vs = kind.Rw
kind_from t declares.Sync vs = kind.Sync
kind_from t declares.Sem (value.Number k ∷ vs) = kind.Sem (nat_abs k)
kind_from t declares.Monitor (value.Hoare ∷ value.Number k ∷ vs) = kind.Hoare (nat_abs k)
kind_from t declares.Monitor (value.Mesa ∷ value.Number k ∷ vs) = kind.Mesa (nat_abs k)
kind_from t declares.Barrier (value.Number k ∷ vs) = kind.Barrier (nat_abs k)
kind_from t declares.Async (value.Number k ∷ vs) = kind.Async (nat_abs k)
kind_from t declares.Var (value.Number k ∷ vs) = kind.Var k
kind_from t declares.Thread [] = kind.Thread t false
kind_from t declares.Thread (v ∷ vs) = kind.Thread t true
kind_from t d vs = kind.Mutex

-- the objects that lines declare, where the next thread has this number
abbrev object_by : FirstWord → ℕ → List Value → (ℕ → List Declaration) → List Declaration
object_by (first.Declares d) t (value.Name name ∷ vs) later = record { name = name; kind = kind_from t d vs } ∷ later (next_thread t d)
object_by f t vs later = later t

abbrev objects_from : ℕ → List SpelledLine → List Declaration
objects_from t [] = []
objects_from t (l ∷ ls) = object_by l.first t l.values (λ u. objects_from u ls)

-- no line of a program declares
skip_program : (all : List Declaration) (t : ℕ) (items : List Instruction) (ls : List SpelledLine) → objects_from t (map (line_of_instruction all) items ++ ls) ≡ objects_from t ls
skip_program all t [] ls = refl
skip_program all t (instruction.Call o c with ∷ items) ls = skip_program all t items ls
skip_program all t (i ∷ items) ls = skip_program all t items ls

pub program-append : (all : List Declaration) (q : List Instruction) (ls : List SpelledLine) → lines_of_program all q ++ ls ≡ map (line_of_instruction all) q ++ end_line ∷ ls
program-append all q ls = append_assoc (map (line_of_instruction all) q) (end_line ∷ []) ls

-- what is read from the line of an object of this kind and from what stands behind it
abbrev ReadBack : List Declaration → ℕ → List (List Instruction) → List ℕ → List Declaration → Kind → Type 0
ReadBack all t qs name ds k =
    object_by (line_of_kind name k).first t (line_of_kind name k).values (λ u. objects_from u (behind all k qs (λ rest. spelled_from all rest ds))) ≡ record { name = name; kind = k } ∷ ds

module _ (all : List Declaration) where
  thread_back : (t : ℕ) (qs : List (List Instruction)) (name : List ℕ) (ds : List Declaration) (held : Bool) → objects_from (suc t) (spelled_from all (later_programs qs) ds) ≡ ds → ReadBack all t qs name ds (kind.Thread t held)
  thread_back t qs name ds held h =
      by held
    where
      behind_it : objects_from (suc t) (lines_of_program all (first_program qs) ++ spelled_from all (later_programs qs) ds) ≡ ds
      behind_it =
          ap (objects_from (suc t)) (program-append all (first_program qs) (spelled_from all (later_programs qs) ds))
          ∙ skip_program all (suc t) (first_program qs) (end_line ∷ spelled_from all (later_programs qs) ds) ∙ h

      by : (b : Bool) → ReadBack all t qs name ds (kind.Thread t b)
      by true = ap (λ xs. record { name = name; kind = kind.Thread t true } ∷ xs) behind_it
      by false = ap (λ xs. record { name = name; kind = kind.Thread t false } ∷ xs) behind_it

  object_back : (t : ℕ) (qs : List (List Instruction)) (d : Declaration) (ds : List Declaration) (k : Kind) → d.kind ≡ k → Numbered t (d ∷ ds)
      → ((u : ℕ) (rs : List (List Instruction)) → Numbered u ds → objects_from u (spelled_from all rs ds) ≡ ds) → ReadBack all t qs d.name ds k
  object_back t qs d ds (kind.Thread own held) is numbered later =
      let next = numbered_thread t own d ds (ap thread_of_kind is) numbered in
      subst (λ n. ReadBack all t qs d.name ds (kind.Thread n held)) (sym next.0) (thread_back t qs d.name ds held (later (suc t) (later_programs qs) next.1))
  object_back t qs d ds k is numbered later =
      ap (λ xs. record { name = d.name; kind = k } ∷ xs) (later t qs (numbered_other t d ds (ap thread_of_kind is) numbered))

  objects_back : (t : ℕ) (qs : List (List Instruction)) (ds : List Declaration) → Numbered t ds → objects_from t (spelled_from all qs ds) ≡ ds
  objects_back t qs [] numbered = refl
  objects_back t qs (d ∷ ds) numbered = object_back t qs d ds d.kind refl numbered (λ u rs h. objects_back u rs ds h)

-- what a call has beside its object
abbrev operand_from : Opcode → List Value → Operand
operand_from opcode.Wait (value.Number k ∷ vs) = operand.Condition (nat_abs k)
operand_from opcode.Signal (value.Number k ∷ vs) = operand.Condition (nat_abs k)
operand_from opcode.Broadcast (value.Number k ∷ vs) = operand.Condition (nat_abs k)
operand_from c (value.Number k ∷ vs) = operand.Number k
operand_from c (value.Register r ∷ vs) = operand.Register r
operand_from c vs = operand.Nothing

operand_back : (c : Opcode) (with : Operand) → takes c with ≡ true → operand_from c (values_of_operand with) ≡ with
operand_back opcode.Wait (operand.Condition n) h = refl
operand_back opcode.Signal (operand.Condition n) h = refl
operand_back opcode.Broadcast (operand.Condition n) h = refl
operand_back c (operand.Condition n) h = absurd (cc)
operand_back opcode.Wait (operand.Number k) h = absurd (cc)
operand_back opcode.Signal (operand.Number k) h = absurd (cc)
operand_back opcode.Broadcast (operand.Number k) h = absurd (cc)
operand_back opcode.Lock operand.Nothing h = refl
operand_back opcode.Lock (operand.Register r) h = refl
operand_back c (operand.Number k) h = refl
operand_back c operand.Nothing h = refl
operand_back c (operand.Register r) h = refl

-- the instruction that a line says by its first word and its values
abbrev instruction_from : List Declaration → FirstWord → List Value → Instruction
instruction_from all (first.Calls c) (value.Name name ∷ vs) = instruction.Call (number_named all name) c (operand_from c vs)
instruction_from all first.Set (value.Register r ∷ value.Number k ∷ vs) = instruction.Set r k
instruction_from all first.Inc (value.Register r ∷ value.Number k ∷ vs) = instruction.Inc r k
instruction_from all first.Repeat (value.Number k ∷ vs) = instruction.Repeat (nat_abs k)
instruction_from all first.While (value.Register r ∷ value.Comparison how ∷ value.Number k ∷ vs) = instruction.While r how k
instruction_from all first.If (value.Register r ∷ value.Comparison how ∷ value.Number k ∷ vs) = instruction.If r how k
instruction_from all f vs = instruction.End

-- a call of an object is one of the object's kind
pub declared_call : (all : List Declaration) (o : ℕ) (c : Opcode) (with : Operand) → is_call_on all o c with ≡ true → is_call_of (option_map (λ d. d.kind) (slice_get all o)) c with ≡ true
declared_call all o c with h = sym (ap (λ r. is_call_of r c with) (slice_get-map (λ (d : Declaration). d.kind) all o)) ∙ h

-- a line that says an instruction is read back
pub object_there : (c : Opcode) (with : Operand) (found : Option Declaration) → is_call_of (option_map (λ d. d.kind) found) c with ≡ true → (d : Declaration) × (found ≡ Some d)
object_there c with None h = absurd (cc)
object_there c with (Some d) h = (d, refl)

instruction_back : (all : List Declaration) → Once all → (i : Instruction) → is_instruction_on all i ≡ true → instruction_from all (line_of_instruction all i).first (line_of_instruction all i).values ≡ i
instruction_back all once (instruction.Call o c with) h =
    let parts = and_parts (is_call_on all o c with) (takes c with) h in
    let there = object_there c with (slice_get all o) (declared_call all o c with parts.0) in
    ap (λ n. instruction.Call n c (operand_from c (values_of_operand with))) (number_of-name all once o there.0 there.1) ∙ ap (instruction.Call o c) (operand_back c with parts.1)
instruction_back all once i h = refl

-- the programs that lines spell, as those of a text
abbrev programs_by : List Declaration → FirstWord → ℕ → List Value → (ℕ → List (List Instruction)) → List (List Instruction)
programs_by all (first.Declares d) depth vs later = later 0
programs_by all first.End zero vs later = [] ∷ later 0
programs_by all first.End (suc depth) vs later = put_instruction instruction.End (later depth)
programs_by all first.Repeat depth vs later = put_instruction (instruction_from all first.Repeat vs) (later (suc depth))
programs_by all first.While depth vs later = put_instruction (instruction_from all first.While vs) (later (suc depth))
programs_by all first.If depth vs later = put_instruction (instruction_from all first.If vs) (later (suc depth))
programs_by all f depth vs later = put_instruction (instruction_from all f vs) (later depth)

abbrev programs_from : List Declaration → ℕ → List SpelledLine → List (List Instruction)
programs_from all depth [] = []
programs_from all depth (l ∷ ls) = programs_by all l.first depth l.values (λ d. programs_from all d ls)

module _ (all : List Declaration) (once : Once all) where
  put_back : (i j : Instruction) (items : List Instruction) (ps rest : List (List Instruction)) → j ≡ i → ps ≡ items ∷ rest → put_instruction j ps ≡ (i ∷ items) ∷ rest
  put_back i j items ps rest same h = ap (put_instruction j) h ∙ ap (λ k. (k ∷ items) ∷ rest) same

  block_back : (block : Block) (blocks : List Block) (items : List Instruction) → option_and_then (λ now. blocks_of now items) (opened block blocks) ≡ Some [] → blocks_of (block ∷ blocks) items ≡ Some []
  block_back block blocks items h =
      cond_both (nat_lt (length blocks) MOST_BLOCKS) (Some (block ∷ blocks)) None (λ r. option_and_then (λ now. blocks_of now items) r ≡ Some [] → blocks_of (block ∷ blocks) items ≡ Some []) (λ t e. e) (λ f e. absurd (cc)) h

  program_back : (blocks : List Block) (items : List Instruction) (ls : List SpelledLine) → blocks_of blocks items ≡ Some [] → list_all (is_instruction_on all) items ≡ true
      → programs_from all (length blocks) (map (line_of_instruction all) items ++ end_line ∷ ls) ≡ items ∷ programs_from all 0 ls
  program_back blocks [] ls nested fine = let none : blocks ≡ [] = cc in ap (λ bs. programs_from all (length bs) (end_line ∷ ls)) none
  program_back blocks (instruction.Call o c with ∷ items) ls nested fine =
      let i = instruction.Call o c with in
      let parts = and_parts (is_instruction_on all i) (list_all (is_instruction_on all) items) fine in
      let depth = length-with_call all blocks in
      put_back i (instruction_from all (first.Calls c) (line_of_instruction all i).values) items (programs_from all (length blocks) (map (line_of_instruction all) items ++ end_line ∷ ls)) (programs_from all 0 ls) (instruction_back all once i parts.0)
      (ap (λ n. programs_from all n (map (line_of_instruction all) items ++ end_line ∷ ls)) (sym depth) ∙ program_back (with_call blocks) items ls nested parts.1)
  program_back blocks (instruction.Set r k ∷ items) ls nested fine =
      ap (put_instruction (instruction.Set r k)) (program_back blocks items ls nested (and_parts (is_instruction_on all (instruction.Set r k)) (list_all (is_instruction_on all) items) fine).1)
  program_back blocks (instruction.Inc r k ∷ items) ls nested fine =
      ap (put_instruction (instruction.Inc r k)) (program_back blocks items ls nested (and_parts (is_instruction_on all (instruction.Inc r k)) (list_all (is_instruction_on all) items) fine).1)
  program_back blocks (instruction.Repeat n ∷ items) ls nested fine =
      ap (put_instruction (instruction.Repeat n)) (program_back (Loop false ∷ blocks) items ls (block_back (Loop false) blocks items nested) (and_parts (is_instruction_on all (instruction.Repeat n)) (list_all (is_instruction_on all) items) fine).1)
  program_back blocks (instruction.While r how k ∷ items) ls nested fine =
      ap (put_instruction (instruction.While r how k)) (program_back (Loop false ∷ blocks) items ls (block_back (Loop false) blocks items nested) (and_parts (is_instruction_on all (instruction.While r how k)) (list_all (is_instruction_on all) items) fine).1)
  program_back blocks (instruction.If r how k ∷ items) ls nested fine =
      ap (put_instruction (instruction.If r how k)) (program_back (Choice ∷ blocks) items ls (block_back Choice blocks items nested) (and_parts (is_instruction_on all (instruction.If r how k)) (list_all (is_instruction_on all) items) fine).1)
  program_back [] (instruction.End ∷ items) ls nested fine = absurd (cc)
  program_back (Loop false ∷ blocks) (instruction.End ∷ items) ls nested fine = absurd (cc)
  program_back (Loop true ∷ blocks) (instruction.End ∷ items) ls nested fine =
      ap (put_instruction instruction.End) (program_back blocks items ls nested (and_parts (is_instruction_on all instruction.End) (list_all (is_instruction_on all) items) fine).1)
  program_back (Choice ∷ blocks) (instruction.End ∷ items) ls nested fine =
      ap (put_instruction instruction.End) (program_back blocks items ls nested (and_parts (is_instruction_on all instruction.End) (list_all (is_instruction_on all) items) fine).1)

  -- the programs that are read from the line of an object of this kind and from what stands behind it
  abbrev ProgramsBack : List (List Instruction) → List ℕ → List Declaration → Kind → Type 0
  ProgramsBack qs name ds k = programs_from all 0 (line_of_kind name k ∷ behind all k qs (λ rest. spelled_from all rest ds)) ≡ qs

  abbrev Later : List Declaration → Type 0
  Later ds = (qs : List (List Instruction)) → length qs ≡ length (filter_map thread_of ds) → AllGood all qs → programs_from all 0 (spelled_from all qs ds) ≡ qs

  behind_back : (q : List Instruction) (qs : List (List Instruction)) (name : List ℕ) (ds : List Declaration) (own : ℕ) (held : Bool) → Good all 0 [] q → programs_from all 0 (spelled_from all qs ds) ≡ qs → ProgramsBack (q ∷ qs) name ds (kind.Thread own held)
  behind_back q qs name ds own held fit h = by held
    where
      behind_it : programs_from all 0 (lines_of_program all q ++ spelled_from all qs ds) ≡ q ∷ qs
      behind_it =
          ap (programs_from all 0) (program-append all q (spelled_from all qs ds)) ∙ program_back [] q (spelled_from all qs ds) fit.nested fit.fine ∙ ap (λ ps. q ∷ ps) h

      by : (b : Bool) → ProgramsBack (q ∷ qs) name ds (kind.Thread own b)
      by true = behind_it
      by false = behind_it

  one_back : (qs : List (List Instruction)) (name : List ℕ) (ds : List Declaration) (k : Kind) → length qs ≡ length (cons_option (thread_of_kind k) (filter_map thread_of ds)) → AllGood all qs → Later ds → ProgramsBack qs name ds k
  one_back [] name ds (kind.Thread own held) n fit later = absurd (omega arith)
  one_back (q ∷ qs) name ds (kind.Thread own held) n fit later = behind_back q qs name ds own held fit.0 (later qs (omega arith) fit.1)
  one_back qs name ds k n fit later = later qs n fit

  programs_back : (qs : List (List Instruction)) (ds : List Declaration) → length qs ≡ length (filter_map thread_of ds) → AllGood all qs → programs_from all 0 (spelled_from all qs ds) ≡ qs
  programs_back [] [] n fit = refl
  programs_back (q ∷ qs) [] n fit = absurd (omega arith)
  programs_back qs (d ∷ ds) n fit = one_back qs d.name ds d.kind n fit (λ rs m h. programs_back rs ds m h)

-- what is read from the lines that spell an exercise is that exercise
pub objects_read : (x : ExerciseView) → IsWellFormed x → objects_from 1 (spelled x) ≡ x.objects
objects_read x formed =
    ap (objects_from 1) (spelled-from x formed) ∙ objects_back x.objects 1 x.programs x.objects (numbered_from x formed)

programs_read : (x : ExerciseView) → IsWellFormed x → programs_from x.objects 0 (spelled x) ≡ x.programs
programs_read x formed =
    let many : length x.programs ≡ length (filter_map thread_of x.objects) = sym (threads_count x formed) in
    ap (programs_from x.objects 0) (spelled-from x formed)
    ∙ programs_back x.objects formed.once x.programs x.objects many (all_good x formed)

-- two exercises that are spelled alike are one
pub spelled_once : (x y : ExerciseView) → IsWellFormed x → IsWellFormed y → spelled x ≡ spelled y → x ≡ y
spelled_once x y of_x of_y same =
    let objects : x.objects ≡ y.objects = sym (objects_read x of_x) ∙ ap (objects_from 1) same ∙ objects_read y of_y in
    let programs : x.programs ≡ y.programs = sym (programs_read x of_x) ∙ ap (programs_from x.objects 0) same ∙ ap (λ ds. programs_from ds 0 (spelled y)) objects ∙ programs_read y of_y in
    ap (λ ds. record { objects = ds; programs = x.programs }) objects ∙ ap (λ ps. record { objects = y.objects; programs = ps }) programs
