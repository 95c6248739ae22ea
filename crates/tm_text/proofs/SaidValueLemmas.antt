-- A line without a fault spells what it says: the object that it declares, or its instruction.
use Rattle.std.proofs.Common.{◌≡◌, ℕ, suc, ◌≤◌, ℤ, pos, negsuc, nat_abs, int_le, Bool, true, false, cond, not, ◌&&◌, ◌||◌, ◌==◌, List, [], ◌∷◌, drop, length, codes, bytes_eq, Option, Some, None, is_none, option_and_then, unwrap_or, ◌-ℤ◌, refl, sym, ap, ◌∙◌, arith}
use Rattle.std.proofs.lemmas.Bool.{and_from, and_parts, cond_both, cond-true, le-leb, or_parts}
use Rattle.std.proofs.lemmas.Bool.Decides.{nat_tests}
use Rattle.tm_base.specs.declared.kinds.Kind.{Kind}
use Rattle.tm_base.specs.declared.kinds.Kind.TheVariants as kind
use Rattle.tm_base.specs.declared.opcodes.Opcode.{Opcode}
use Rattle.tm_base.specs.declared.opcodes.Opcode.TheVariants as opcode
use Rattle.tm_lines.specs.declared.faults.Fault.TheVariants as fault
use Rattle.tm_lines.specs.declared.first_words.Declarator.{Declarator}
use Rattle.tm_lines.specs.declared.first_words.Declarator.TheVariants as declares
use Rattle.tm_lines.specs.declared.first_words.FirstWord.{FirstWord}
use Rattle.tm_lines.specs.declared.first_words.FirstWord.TheVariants as first
use Rattle.tm_lines.specs.declared.first_words.Slot.{Slot}
use Rattle.tm_lines.specs.declared.first_words.Slot.TheVariants as slot
use Rattle.tm_programs.specs.declared.instructions.Operand.TheVariants as operand
use Rattle.tm_lines.specs.FirstWords.{declarator_slots, operand_slots, slots_of}
use Rattle.tm_lines.specs.declared.limits.TheConstants.{GREATEST_NUMBER, LEAST_NUMBER, MOST_CAPACITY, MOST_CONDITIONS, MOST_PARTIES, MOST_START, MOST_TURNS}
use Rattle.tm_lines.specs.LineFaults.{Place, conditions_of, one_breaks}
use Rattle.tm_lines.specs.NamedLines.{conditions_said, declarator_of, kind_said, natural_or, number_or, word_at}
use Rattle.tm_lines.specs.Numerals.{begins_with_r, integer_of, number_of, unless_outside}
use Rattle.tm_text.specs.declared.exercises.Declaration.{Declaration}
use Rattle.tm_text.specs.declared.values.Value.{Value}
use Rattle.tm_text.specs.declared.values.Value.TheVariants as value
use Rattle.tm_text.specs.Exercises.{IsKindRead, name_of}
use Rattle.tm_text.specs.SaidLines.{integer_said, value_said, values_said}
use Rattle.tm_text.specs.SpelledLines.{SpelledLine, line_of_instruction, line_of_kind, values_of_operand}
use Rattle.tm_text.specs.Texts.{comparison_said, instruction_said, number_named, number_said, operand_by, operand_said, register_said}
use Rattle.tm_text.proofs.Faultless.{Fine}
use Rattle.tm_text.proofs.SaidCalls.{inside}

-- the number that a word writes in a range
number_in : (other least most : ℤ) (w : List ℕ) (found : Option ℤ) → integer_of w ≡ found → is_none (option_and_then (unless_outside least most) found) ≡ false → (number_or other least most w ≡ integer_said w) × (int_le least (integer_said w) ≡ true)
number_in other least most w None e h = absurd (let no : true ≡ false = h in cc)
number_in other least most w (Some k) e h =
    cond_both (int_le least k && int_le k most) (Some k) None (λ r. option_and_then (unless_outside least most) (integer_of w) ≡ r → is_none r ≡ false → (number_or other least most w ≡ integer_said w) × (int_le least (integer_said w) ≡ true))
    (λ t is some. (ap (λ r. unwrap_or r other) is ∙ sym (ap (λ r. unwrap_or r (pos 0)) e), ap (λ r. int_le least (unwrap_or r (pos 0))) e ∙ (and_parts (int_le least k) (int_le k most) t).0))
    (λ f is some. absurd (let no : true ≡ false = some in cc))
    (ap (option_and_then (unless_outside least most)) e) h

pub number_written : (other least most : ℤ) (w : List ℕ) → is_none (number_of least most w) ≡ false → number_or other least most w ≡ integer_said w
number_written other least most w h = (number_in other least most w (integer_of w) refl h).0

natural_is : (l : ℕ) (k : ℤ) → int_le (pos l) k ≡ true → pos (nat_abs k) ≡ k
natural_is l (pos n) h = refl
natural_is l (negsuc n) h = absurd (let no : false ≡ true = h in cc)

pub natural_written : (other l : ℕ) (most : ℤ) (w : List ℕ) → is_none (number_of (pos l) most w) ≡ false → pos (natural_or other (pos l) most w) ≡ integer_said w
natural_written other l most w h =
    let is = number_in (pos other) (pos l) most w (integer_of w) refl h in
    ap (λ k. pos (nat_abs k)) is.0 ∙ natural_is l (integer_said w) is.1

-- what a line with this first word says
abbrev pub says : FirstWord → List (List ℕ) → SpelledLine
says f ws = record { first = f; values = values_said (slots_of f) (drop 1 ws) }

-- how many words there are
counted : (n m : ℕ) → not (n == m) ≡ false → n ≡ m
counted n m h = grind (arith, nat_tests)

counted_either : (n : ℕ) → not (n == 2 || n == 3) ≡ false → (2 ≤ n) × (n ≤ 3)
counted_either n h = by (n == 2) refl
  where
    by : (b : Bool) → n == 2 ≡ b → (2 ≤ n) × (n ≤ 3)
    by true e = let is : n ≡ 2 = grind (arith, nat_tests) in (omega arith, omega arith)
    by false e = let is : n ≡ 3 = counted n 3 (sym (ap (λ b. not (b || n == 3)) e) ∙ h) in (omega arith, omega arith)

is_true : (b : Bool) → not b ≡ false → b ≡ true
is_true true h = refl
is_true false h = absurd (cc)

-- a monitor of so many conditions
monitor_spelled : (b : Bool) (name : List ℕ) (n : ℕ) → line_of_kind name (cond b (kind.Hoare n) (kind.Mesa n)) ≡ record { first = first.Declares declares.Monitor; values = value.Name name ∷ cond b value.Hoare value.Mesa ∷ value.Number (pos n) ∷ [] }
monitor_spelled true name n = refl
monitor_spelled false name n = refl

-- a line that declares by this word, with a name and a number
abbrev with_number : Declarator → List ℕ → ℤ → SpelledLine
with_number d name z = record { first = first.Declares d; values = value.Name name ∷ value.Number z ∷ [] }

pub declaration_spelled : (p : Place) (t : ℕ) (d : Declarator) (k : Option Kind) (ws : List (List ℕ)) → Fine p (first.Declares d) k ws → line_of_kind (word_at 1 ws) (kind_said t d ws) ≡ says (first.Declares d) ws
declaration_spelled p t declares.Mutex k (w ∷ name ∷ []) fine = refl
declaration_spelled p t declares.Rwlock k (w ∷ name ∷ []) fine = refl
declaration_spelled p t declares.Sync k (w ∷ name ∷ []) fine = refl
declaration_spelled p t declares.Sem k (w ∷ name ∷ third ∷ []) fine = ap (with_number declares.Sem name) (natural_written 0 0 MOST_START third (or_parts _ _ fine.number).0)
declaration_spelled p t declares.Monitor k (w ∷ name ∷ third ∷ fourth ∷ []) fine =
    let b = bytes_eq third (codes "hoare") in
    monitor_spelled b name (conditions_said fourth)
    ∙ ap (λ z. record { first = first.Declares declares.Monitor; values = value.Name name ∷ cond b value.Hoare value.Mesa ∷ value.Number z ∷ [] })
    (natural_written 16 1 MOST_CONDITIONS fourth (or_parts _ _ fine.number).0)
declaration_spelled p t declares.Barrier k (w ∷ name ∷ third ∷ []) fine = ap (with_number declares.Barrier name) (natural_written 1 1 MOST_PARTIES third (or_parts _ _ fine.number).0)
declaration_spelled p t declares.Async k (w ∷ name ∷ third ∷ []) fine = ap (with_number declares.Async name) (natural_written 1 1 MOST_CAPACITY third (or_parts _ _ fine.number).0)
declaration_spelled p t declares.Var k (w ∷ name ∷ third ∷ []) fine = ap (with_number declares.Var name) (number_written (pos 0) LEAST_NUMBER GREATEST_NUMBER third (or_parts _ _ fine.number).0)
declaration_spelled p t declares.Thread k (w ∷ name ∷ []) fine = refl
declaration_spelled p t declares.Thread k (w ∷ name ∷ third ∷ []) fine =
    let word = (or_parts (not (not p.inside)) _ fine.allowed).1 in
    let held : bytes_eq third (codes "held") ≡ true = is_true _ (or_parts _ _ word).0 in
    ap (λ b. line_of_kind name (kind.Thread t b)) held
declaration_spelled p t declares.Thread k ws fine = let n = counted_either (length ws) fine.count in absurd (omega arith)
declaration_spelled p t d k ws fine = let n = counted (length ws) (suc (length (declarator_slots d))) fine.count in absurd (omega arith)

-- a monitor has no more conditions than there may be
conditions_few : (k : Kind) → IsKindRead k → (z : ℤ) → int_le z (conditions_of (Some k) -ℤ pos 1) ≡ true → int_le z (pos 15) ≡ true
conditions_few (kind.Hoare n) read (pos j) h = let below = inside n j h in let most = read.1 in le-leb j 15 (omega arith)
conditions_few (kind.Mesa n) read (pos j) h = let below = inside n j h in let most = read.1 in le-leb j 15 (omega arith)
conditions_few k read (negsuc j) h = refl
conditions_few k read z h = h

-- a number within a range is within a wider one
wider : (least most more : ℤ) (found : Option ℤ) → ((z : ℤ) → int_le z most ≡ true → int_le z more ≡ true) → is_none (option_and_then (unless_outside least most) found) ≡ false → is_none (option_and_then (unless_outside least more) found) ≡ false
wider least most more None up h = absurd (let no : true ≡ false = h in cc)
wider least most more (Some z) up h =
    cond_both (int_le least z && int_le z most) (Some z) None (λ r. is_none r ≡ false → is_none (unless_outside least more z) ≡ false)
    (λ t some. let parts = and_parts (int_le least z) (int_le z most) t in ap is_none (cond-true (int_le least z && int_le z more) (Some z) None (and_from (int_le least z) (int_le z more) parts.0 (up z parts.1))))
    (λ f some. absurd (let no : true ≡ false = some in cc)) h

condition_spelled : (k : Kind) → IsKindRead k → (w : List ℕ) → is_none (number_of (pos 0) (conditions_of (Some k) -ℤ pos 1) w) ≡ false → pos (natural_or 0 (pos 0) (pos 15) w) ≡ integer_said w
condition_spelled k read w h = natural_written 0 0 (pos 15) w (wider (pos 0) (conditions_of (Some k) -ℤ pos 1) (pos 15) (integer_of w) (conditions_few k read) h)

value_spelled : (w : List ℕ) → (not (begins_with_r w) && is_none (number_of LEAST_NUMBER GREATEST_NUMBER w)) ≡ false → values_of_operand (operand_by slot.Value w) ≡ value_said slot.Value w ∷ []
value_spelled w h = by (begins_with_r w) h
  where
    by : (b : Bool) → (not b && is_none (number_of LEAST_NUMBER GREATEST_NUMBER w)) ≡ false
        → values_of_operand (cond b (operand.Register (register_said w)) (operand.Number (number_said w))) ≡ cond b (value.Register (register_said w)) (value.Number (integer_said w)) ∷ []
    by true some = refl
    by false some = ap (λ z. value.Number z ∷ []) (number_written (pos 0) LEAST_NUMBER GREATEST_NUMBER w some)

nothing_spelled : (ss : List Slot) → 0 ≡ length ss → values_of_operand (operand_said ss []) ≡ values_said ss []
nothing_spelled [] n = refl
nothing_spelled (s ∷ ss) n = absurd (omega arith)

operand_spelled : (p : Place) (f : FirstWord) (k : Kind) → IsKindRead k → (c : Opcode) (rest : List (List ℕ)) → length rest ≡ length (operand_slots c) → one_breaks p f (Some k) fault.Number (operand_slots c) rest ≡ false
    → values_of_operand (operand_said (operand_slots c) (word_at 0 rest)) ≡ values_said (operand_slots c) rest
operand_spelled p f k read opcode.TryLock (w ∷ []) n h = refl
operand_spelled p f k read opcode.TryP (w ∷ []) n h = refl
operand_spelled p f k read opcode.Recv (w ∷ []) n h = refl
operand_spelled p f k read opcode.Read (w ∷ []) n h = refl
operand_spelled p f k read opcode.Wait (w ∷ []) n h = ap (λ z. value.Number z ∷ []) (condition_spelled k read w (or_parts _ _ h).0)
operand_spelled p f k read opcode.Signal (w ∷ []) n h = ap (λ z. value.Number z ∷ []) (condition_spelled k read w (or_parts _ _ h).0)
operand_spelled p f k read opcode.Broadcast (w ∷ []) n h = ap (λ z. value.Number z ∷ []) (condition_spelled k read w (or_parts _ _ h).0)
operand_spelled p f k read opcode.Send (w ∷ []) n h = value_spelled w (or_parts _ _ h).0
operand_spelled p f k read opcode.Write (w ∷ []) n h = value_spelled w (or_parts _ _ h).0
operand_spelled p f k read opcode.Add (w ∷ []) n h = value_spelled w (or_parts _ _ h).0
operand_spelled p f k read c [] n h = nothing_spelled (operand_slots c) n
operand_spelled p f k read c (w ∷ rest) n h = absurd (omega arith)

-- where the name is one of the text, an object has it, and its kind is one that a text can declare
abbrev pub IsKnown : List Declaration → Option Kind → List ℕ → Type 0
IsKnown all found name = (k : Kind) → found ≡ Some k → IsKindRead k × (name_of all (number_named all name) ≡ name)

call_spelled : (p : Place) (all : List Declaration) (c : Opcode) (found : Option Kind) (ws : List (List ℕ)) → IsKnown all found (word_at 1 ws) → Fine p (first.Calls c) found ws
    → line_of_instruction all (instruction_said all (first.Calls c) ws) ≡ says (first.Calls c) ws
call_spelled p all c found [] known fine = let n = counted 0 (suc (suc (length (operand_slots c)))) fine.count in absurd (omega arith)
call_spelled p all c found (w ∷ []) known fine = let n = counted 1 (suc (suc (length (operand_slots c)))) fine.count in absurd (omega arith)
call_spelled p all c None (w ∷ name ∷ rest) known fine = absurd (let no : true ≡ false = fine.unknown in cc)
call_spelled p all c (Some k) (w ∷ name ∷ rest) known fine =
    let n = counted (length (w ∷ name ∷ rest)) (suc (suc (length (operand_slots c)))) fine.count in
    let same : length rest ≡ length (operand_slots c) = omega arith in
    let with = values_of_operand (operand_said (operand_slots c) (word_at 0 rest)) in
    let call : List ℕ → List Value → SpelledLine = λ called values. record { first = first.Calls c; values = value.Name called ∷ values } in
    ap (λ called. call called with) (known k refl).1 ∙ ap (call name) (operand_spelled p (first.Calls c) k (known k refl).0 c rest same fine.number)

-- an instruction is spelled by its line
pub instruction_spelled : (p : Place) (all : List Declaration) (f : FirstWord) (k : Option Kind) (ws : List (List ℕ)) → declarator_of (Some f) ≡ None → IsKnown all k (word_at 1 ws) → Fine p f k ws
    → line_of_instruction all (instruction_said all f ws) ≡ says f ws
instruction_spelled p all (first.Declares d) k ws none known fine = absurd (cc)
instruction_spelled p all (first.Calls c) k ws none known fine = call_spelled p all c k ws known fine
instruction_spelled p all first.Set k (w ∷ r ∷ v ∷ []) none known fine =
    ap (λ z. record { first = first.Set; values = value.Register (register_said r) ∷ value.Number z ∷ [] }) (number_written (pos 0) LEAST_NUMBER GREATEST_NUMBER v (or_parts _ _ fine.number).0)
instruction_spelled p all first.Inc k (w ∷ r ∷ v ∷ []) none known fine =
    ap (λ z. record { first = first.Inc; values = value.Register (register_said r) ∷ value.Number z ∷ [] }) (number_written (pos 0) LEAST_NUMBER GREATEST_NUMBER v (or_parts _ _ fine.number).0)
instruction_spelled p all first.Repeat k (w ∷ v ∷ []) none known fine =
    ap (λ z. record { first = first.Repeat; values = value.Number z ∷ [] }) (natural_written 0 0 MOST_TURNS v (or_parts _ _ fine.number).0)
instruction_spelled p all first.While k (w ∷ r ∷ how ∷ v ∷ []) none known fine =
    ap (λ z. record { first = first.While; values = value.Register (register_said r) ∷ value.Comparison (comparison_said how) ∷ value.Number z ∷ [] }) (number_written (pos 0) LEAST_NUMBER GREATEST_NUMBER v (or_parts _ _ fine.number).0)
instruction_spelled p all first.If k (w ∷ r ∷ how ∷ v ∷ []) none known fine =
    ap (λ z. record { first = first.If; values = value.Register (register_said r) ∷ value.Comparison (comparison_said how) ∷ value.Number z ∷ [] }) (number_written (pos 0) LEAST_NUMBER GREATEST_NUMBER v (or_parts _ _ fine.number).0)
instruction_spelled p all first.End k (w ∷ []) none known fine = refl
instruction_spelled p all first.End k [] none known fine = refl
instruction_spelled p all f k ws none known fine = absurd (let n = counted (length ws) (suc (length (slots_of f))) fine.count in omega arith)
