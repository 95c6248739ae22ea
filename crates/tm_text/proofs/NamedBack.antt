-- The names of the text that spells an exercise are those of its objects, with their kinds.
use Rattle.std.proofs.Common.{◌≡◌, ℕ, zero, suc, ◌≤◌, pos, nat_abs, true, false, not, ◌&&◌, List, [], ◌∷◌, ◌++◌, codes, map, find, bytes_eq, slice_get, Option, Some, None, is_some, option_map, option_and_then, unwrap_or, refl, sym, ap, ◌∙◌, arith}
use Rattle.std.specs.List.{list_all, list_any}
use Rattle.std.proofs.lemmas.Bool.{and_from, and_left, and_parts, and_right, cond-true, le-leb, or_parts}
use Rattle.std.proofs.lemmas.Slice.Eq.{bytes_eq-Decides}
use Rattle.tm_base.specs.Names.{is_name}
use Rattle.tm_base.specs.declared.opcodes.Opcode.{Opcode}
use Rattle.tm_programs.specs.declared.instructions.Operand.{Operand}
use Rattle.tm_base.specs.declared.kinds.Kind.{Kind}
use Rattle.tm_base.specs.declared.kinds.Kind.TheVariants as kind
use Rattle.tm_programs.specs.declared.instructions.Instruction.{Instruction}
use Rattle.tm_programs.specs.declared.instructions.Instruction.TheVariants as instruction
use Rattle.tm_lines.specs.declared.limits.TheConstants.{GREATEST_NUMBER, LEAST_NUMBER}
use Rattle.tm_lines.specs.FirstWords.{first_word_of}
use Rattle.tm_lines.specs.NamedLines.{declarator_of, declares_well, kind_named, kind_said, natural_or, word_at}
use Rattle.tm_text.specs.declared.exercises.Declaration.{Declaration}
use Rattle.tm_text.specs.declared.values.Value.TheVariants as value
use Rattle.tm_text.specs.CanonicalTexts.{value_word}
use Rattle.tm_text.specs.Exercises.{is_asked, is_call_of, is_call_on, is_instruction_on, IsKindRead, kinds_of, takes}
use Rattle.tm_text.specs.SpelledLines.{SpelledLine, end_line, line_of_instruction, line_of_kind}
use Rattle.tm_text.proofs.NamedNumbers.{skipped}
use Rattle.tm_text.proofs.SaidNames.{unnumbered}
use Rattle.tm_text.proofs.SaidObjects.{Fresh, fresh_at}
use Rattle.tm_text.proofs.SaidPrograms.{AllGood}
use Rattle.tm_text.proofs.SoundLines.{words_in}
use Rattle.tm_text.proofs.SoundValues.{Longs, call_back, long_number}
use Rattle.tm_text.proofs.SpelledBack.{program-append}
use Rattle.tm_text.proofs.SpelledForwards.{behind, first_good, first_program, good_behind, later_programs, left_behind, spelled_from}
use Rattle.tm_text.proofs.WrittenValues.{IsLong, in_range}

natural_written-back : (other l n m : ℕ) → IsLong (pos n) → l ≤ n → n ≤ m → natural_or other (pos l) (pos m) (value_word (value.Number (pos n))) ≡ n
natural_written-back other l n m long least most =
    ap (λ r. nat_abs (unwrap_or r (pos other))) (in_range (pos l) (pos m) (pos n) long (le-leb l n least, le-leb n m most))

-- the line of an object declares it
declares_it : (name : List ℕ) (k : Kind) → IsKindRead k → Longs (line_of_kind name k).values
    → option_map (λ d. kind_said 0 d (words_in (line_of_kind name k))) (declarator_of (first_word_of (word_at 0 (words_in (line_of_kind name k))))) ≡ Some (unnumbered k)
declares_it name (kind.Sem n) read long = ap (λ m. Some (kind.Sem m)) (natural_written-back 0 0 n 1000000 (long_number (pos n) [] long) (omega arith) read)
declares_it name (kind.Hoare n) read long = ap (λ m. Some (kind.Hoare m)) (natural_written-back 16 1 n 16 (long_number (pos n) [] long) read.0 read.1)
declares_it name (kind.Mesa n) read long = ap (λ m. Some (kind.Mesa m)) (natural_written-back 16 1 n 16 (long_number (pos n) [] long) read.0 read.1)
declares_it name (kind.Barrier n) read long = ap (λ m. Some (kind.Barrier m)) (natural_written-back 1 1 n 64 (long_number (pos n) [] long) read.0 read.1)
declares_it name (kind.Async n) read long = ap (λ m. Some (kind.Async m)) (natural_written-back 1 1 n 65535 (long_number (pos n) [] long) read.0 read.1)
declares_it name (kind.Var k) read long =
    ap (λ r. Some (kind.Var (unwrap_or r (pos 0)))) (in_range LEAST_NUMBER GREATEST_NUMBER k (long_number k [] long) (long_number k [] long))
declares_it name (kind.Thread own true) read long = refl
declares_it name (kind.Thread own false) read long = refl
declares_it name k read long = refl

-- its second word is the name, and its first one declares
well : (name : List ℕ) (k : Kind) → (is_some (declarator_of (first_word_of (word_at 0 (words_in (line_of_kind name k))))) ≡ true) × (word_at 1 (words_in (line_of_kind name k)) ≡ name)
well name (kind.Thread own true) = (refl, refl)
well name (kind.Thread own false) = (refl, refl)
well name k = (refl, refl)

here : (name : List ℕ) (k : Kind) (wss : List (List (List ℕ))) → is_name name ≡ true → bytes_eq name (codes "main") ≡ false → IsKindRead k → Longs (line_of_kind name k).values → kind_named (words_in (line_of_kind name k) ∷ wss) name ≡ Some (unnumbered k)
here name k wss named not_main read long =
    let ws = words_in (line_of_kind name k) in
    let first = well name k in
    let declares = and_from _ _ (and_from (is_some (declarator_of (first_word_of (word_at 0 ws)))) (is_name (word_at 1 ws)) first.0 (ap is_name first.1 ∙ named)) (ap (λ w. not (bytes_eq w (codes "main"))) first.1 ∙ ap not not_main) in
    let same : bytes_eq (word_at 1 ws) name ≡ true = (bytes_eq-Decides (word_at 1 ws) name).1 first.1 in
    ap (option_and_then (λ xs. option_map (λ d. kind_said 0 d xs) (declarator_of (first_word_of (word_at 0 xs)))))
    (cond-true (declares_well ws && bytes_eq (word_at 1 ws) name) (Some ws) (find (λ xs. declares_well xs && bytes_eq (word_at 1 xs) name) wss) (and_from (declares_well ws) (bytes_eq (word_at 1 ws) name) declares same))
    ∙ declares_it name k read long

-- the line of an instruction declares nothing
call_asked : (found : Option Kind) (c : Opcode) (with : Operand) → is_call_of found c with ≡ true → is_asked c ≡ true
call_asked None c with h = absurd (cc)
call_asked (Some k) c with h = (and_parts (is_asked c) _ h).0

pub asked_by : (all : List Declaration) (o : ℕ) (c : Opcode) (with : Operand) → is_instruction_on all (instruction.Call o c with) ≡ true → is_asked c ≡ true
asked_by all o c with h = call_asked (slice_get (kinds_of all) o) c with (and_parts (is_call_on all o c with) (takes c with) h).0

declares_none : (all : List Declaration) (i : Instruction) → is_instruction_on all i ≡ true → declarator_of (first_word_of (word_at 0 (words_in (line_of_instruction all i)))) ≡ None
declares_none all (instruction.Call o c with) h = ap declarator_of (call_back c (asked_by all o c with h))
declares_none all i h = refl

skip_none : (ws : List (List ℕ)) (wss : List (List (List ℕ))) (name : List ℕ) → declarator_of (first_word_of (word_at 0 ws)) ≡ None → kind_named (ws ∷ wss) name ≡ kind_named wss name
skip_none ws wss name h =
    let off : declares_well ws ≡ false = rw h refl in
    skipped ws wss name (and_left (declares_well ws) (bytes_eq (word_at 1 ws) name) off)

skip_program : (all : List Declaration) (q : List Instruction) (ls : List SpelledLine) (name : List ℕ) → list_all (is_instruction_on all) q ≡ true → kind_named (map words_in (map (line_of_instruction all) q ++ end_line ∷ ls)) name ≡ kind_named (map words_in ls) name
skip_program all [] ls name h = skip_none (words_in end_line) (map words_in ls) name refl
skip_program all (i ∷ q) ls name h =
    let parts = and_parts (is_instruction_on all i) (list_all (is_instruction_on all) q) h in
    skip_none (words_in (line_of_instruction all i)) (map words_in (map (line_of_instruction all) q ++ end_line ∷ ls)) name (declares_none all i parts.0) ∙ skip_program all q ls name parts.1

skip_behind : (all : List Declaration) (k : Kind) (qs : List (List Instruction)) (ds : List Declaration) (name : List ℕ) → AllGood all qs
    → kind_named (map words_in (behind all k qs (λ rest. spelled_from all rest ds))) name ≡ kind_named (map words_in (spelled_from all (left_behind k qs) ds)) name
skip_behind all (kind.Thread own held) qs ds name h =
    let ls = spelled_from all (later_programs qs) ds in
    ap (λ lines. kind_named (map words_in lines) name) (program-append all (first_program qs) ls) ∙ skip_program all (first_program qs) ls name (first_good all qs h).fine
skip_behind all k qs ds name h = refl

-- the numbers of the lines that declare these objects are of 64 bits
abbrev pub LongKinds : List Declaration → Type 0
LongKinds [] = Unit {0}
LongKinds (d ∷ ds) = Longs (line_of_kind d.name d.kind).values × LongKinds ds

-- the name of each object has its kind
pub named_from : (all : List Declaration) (earlier : List (List ℕ)) (qs : List (List Instruction)) (ds : List Declaration) → Fresh earlier ds → AllGood all qs → LongKinds ds
    → (o : ℕ) (d : Declaration) → slice_get ds o ≡ Some d → kind_named (map words_in (spelled_from all qs ds)) d.name ≡ Some (unnumbered d.kind)
named_from all earlier qs [] fresh fine long o d at = absurd (cc)
named_from all earlier qs (c ∷ ds) fresh fine long zero d at =
    let same : c ≡ d = cc in
    ap (kind_named (map words_in (spelled_from all qs (c ∷ ds)))) (ap (λ x. x.name) (sym same))
    ∙ here c.name c.kind (map words_in (behind all c.kind qs (λ rest. spelled_from all rest ds))) fresh.0.is_name fresh.0.not_main fresh.1 long.0 ∙ ap (λ x. Some (unnumbered x.kind)) same
named_from all earlier qs (c ∷ ds) fresh fine long (suc o) d at =
    let one = fresh_at (c.name ∷ earlier) ds fresh.2 o d at in
    let other : bytes_eq c.name d.name ≡ false = (or_parts (bytes_eq c.name d.name) (list_any (λ name. bytes_eq name d.name) earlier) one.not_earlier).0 in
    let ws = words_in (line_of_kind c.name c.kind) in
    let differs : bytes_eq (word_at 1 ws) d.name ≡ false = ap (λ w. bytes_eq w d.name) (well c.name c.kind).1 ∙ other in
    skipped ws (map words_in (behind all c.kind qs (λ rest. spelled_from all rest ds))) d.name (and_right (declares_well ws) (bytes_eq (word_at 1 ws) d.name) differs)
    ∙ skip_behind all c.kind qs ds d.name fine
    ∙ named_from all (c.name ∷ earlier) (left_behind c.kind qs) ds fresh.2 (good_behind all c.kind qs fine) long.1 o d at
