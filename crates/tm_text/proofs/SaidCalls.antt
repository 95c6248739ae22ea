-- The instructions of a text without a faulty line are ones that a program may have.
use Rattle.std.proofs.Common.{◌≡◌, ℕ, suc, ◌-◌, ◌<◌, ℤ, pos, negsuc, ◌-ℤ◌, nat_abs, int_le, Bool, true, false, cond, not, ◌&&◌, nat_lt, ltb, List, [], ◌∷◌, length, bytes_eq, find, Option, Some, None, is_none, option_and_then, option_map, unwrap_or, refl, sym, ap, ◌∙◌, arith}
use Rattle.std.specs.List.{list_all}
use Rattle.std.proofs.lemmas.Bool.{and_from, and_parts, cond_both, eqb-true, leb-true, ltb-false, lt-ltb, or_parts}
use Rattle.tm_base.specs.declared.kinds.Kind.{Kind}
use Rattle.tm_base.specs.declared.kinds.Kind.TheVariants as kind
use Rattle.tm_base.specs.declared.operations.Op.{Op}
use Rattle.tm_base.specs.declared.operations.Op.TheVariants as op
use Rattle.tm_base.specs.declared.opcodes.Opcode.{Opcode}
use Rattle.tm_base.specs.declared.opcodes.Opcode.TheVariants as opcode
use Rattle.tm_base.specs.Fits.{fits}
use Rattle.tm_base.specs.Opcodes.{op_with}
use Rattle.tm_programs.specs.Programs.{condition_of}
use Rattle.tm_lines.specs.declared.faults.Fault.TheVariants as fault
use Rattle.tm_lines.specs.declared.first_words.FirstWord.{FirstWord}
use Rattle.tm_lines.specs.declared.first_words.FirstWord.TheVariants as first
use Rattle.tm_lines.specs.Numerals.{integer_of, number_of, unless_outside}
use Rattle.tm_lines.specs.FirstWords.{first_word_of, first_words, operand_slots, spelling}
use Rattle.tm_lines.specs.LineFaults.{Place, conditions_of, has_operation, one_breaks}
use Rattle.tm_lines.specs.NamedLines.{natural_or, word_at}
use Rattle.tm_text.specs.declared.exercises.Declaration.{Declaration}
use Rattle.std.proofs.lemmas.Option.{slice_get-map}
use Rattle.tm_text.specs.Exercises.{is_asked, is_call_of, is_call_on, is_instruction_on}
use Rattle.tm_text.specs.Texts.{instruction_said, number_named, operand_said}
use Rattle.tm_text.proofs.Faultless.{Fine}
use Rattle.tm_text.proofs.SaidValues.{operand_taken, register_below, turns_few}
use Rattle.tm_text.proofs.SaidNames.{IsFound, unnumbered}

-- a word in the range of a monitor's conditions is one of them
pub inside : (m j : ℕ) → int_le (pos j) (pos m -ℤ pos 1) ≡ true → j < m
inside m j h =
    cond_both (ltb m 1) _ (pos (m - 1)) (λ r. int_le (pos j) r ≡ true → j < m)
    (λ t e. absurd (let no : false ≡ true = e in cc))
    (λ f e. let least = ltb-false m 1 f in let most = leb-true j (m - 1) e in omega arith) h

condition_by : (m : ℕ) (o : Option ℤ) → is_none (option_and_then (unless_outside (pos 0) (pos m -ℤ pos 1)) o) ≡ false → nat_lt (nat_abs (unwrap_or (option_and_then (unless_outside (pos 0) (pos 15)) o) (pos 0))) m ≡ true
condition_by m None h = absurd (cc)
condition_by m (Some (negsuc j)) h = absurd (let no : true ≡ false = h in cc)
condition_by m (Some (pos j)) h =
    let within : int_le (pos j) (pos m -ℤ pos 1) ≡ true = passes (int_le (pos 0) (pos j)) (int_le (pos j) (pos m -ℤ pos 1)) (pos j) h in
    let below : j < m = inside m j within in
    cond_both (int_le (pos 0) (pos j) && int_le (pos j) (pos 15)) (Some (pos j)) None (λ r. nat_lt (nat_abs (unwrap_or r (pos 0))) m ≡ true)
    (λ t. lt-ltb j m below) (λ f. let some : 0 < m = omega arith in lt-ltb 0 m some)
  where
    passes : (a b : Bool) (k : ℤ) → is_none (cond (a && b) (Some k) None) ≡ false → b ≡ true
    passes true true k e = refl
    passes true false k e = absurd (cc)
    passes false b k e = absurd (cc)

condition_below : (m : ℕ) (w : List ℕ) → is_none (number_of (pos 0) (pos m -ℤ pos 1) w) ≡ false → nat_lt (natural_or 0 (pos 0) (pos 15) w) m ≡ true
condition_below m w h = condition_by m (integer_of w) h

-- the word of a condition is one of the kind's
abbrev IsConditionIn : Opcode → Kind → List ℕ → Type 0
IsConditionIn opcode.Wait k w = is_none (number_of (pos 0) (conditions_of (Some k) -ℤ pos 1) w) ≡ false
IsConditionIn opcode.Signal k w = is_none (number_of (pos 0) (conditions_of (Some k) -ℤ pos 1) w) ≡ false
IsConditionIn opcode.Broadcast k w = is_none (number_of (pos 0) (conditions_of (Some k) -ℤ pos 1) w) ≡ false
IsConditionIn c k w = Unit {0}

condition_in : (p : Place) (f : FirstWord) (c : Opcode) (k : Kind) (ws : List (List ℕ)) → length ws ≡ length (operand_slots c) → one_breaks p f (Some k) fault.Number (operand_slots c) ws ≡ false → IsConditionIn c k (word_at 0 ws)
condition_in p f opcode.Wait k [] n h = absurd (omega arith)
condition_in p f opcode.Wait k (w ∷ ws) n h = (or_parts _ _ h).0
condition_in p f opcode.Signal k [] n h = absurd (omega arith)
condition_in p f opcode.Signal k (w ∷ ws) n h = (or_parts _ _ h).0
condition_in p f opcode.Broadcast k [] n h = absurd (omega arith)
condition_in p f opcode.Broadcast k (w ∷ ws) n h = (or_parts _ _ h).0
condition_in p f c k ws n h = tt

-- the operation with the operand that a word says fits the kind
fits-said : (c : Opcode) (k : Kind) (w : List ℕ) → has_operation k c ≡ true → IsConditionIn c k w → fits (op_with c (condition_of (operand_said (operand_slots c) w)) (pos 0)) k ≡ true
fits-said opcode.Wait (kind.Hoare m) w h n = condition_below m w n
fits-said opcode.Wait (kind.Mesa m) w h n = condition_below m w n
fits-said opcode.Wait k w h n = h
fits-said opcode.Signal (kind.Hoare m) w h n = condition_below m w n
fits-said opcode.Signal (kind.Mesa m) w h n = condition_below m w n
fits-said opcode.Signal k w h n = h
fits-said opcode.Broadcast (kind.Mesa m) w h n = condition_below m w n
fits-said opcode.Broadcast k w h n = h
fits-said c k w h n = h

-- what fits a kind doesn't hang on the number of a thread
fits-thread : (o : Op) (a b : ℕ) (held : Bool) → fits o (kind.Thread a held) ≡ fits o (kind.Thread b held)
fits-thread op.Lock a b held = refl
fits-thread o a b held = refl

fits-unnumbered : (o : Op) (k : Kind) → fits o k ≡ fits o (unnumbered k)
fits-unnumbered o (kind.Thread own held) = fits-thread o own 0 held
fits-unnumbered o k = refl

-- a first word that calls is one of an operation that a program can ask
abbrev is_asked_word : FirstWord → Bool
is_asked_word (first.Calls c) = is_asked c
is_asked_word f = true

found-passes : {X : Type 0} (test pass : X → Bool) (xs : List X) (x : X) → find test xs ≡ Some x → list_all pass xs ≡ true → pass x ≡ true
found-passes test pass [] x e h = absurd (cc)
found-passes test pass (y ∷ ys) x e h =
    let parts = and_parts (pass y) (list_all pass ys) h in
    cond_both (test y) (Some y) (find test ys) (λ r. r ≡ Some x → pass x ≡ true)
    (λ t same. let is : y ≡ x = cc in ap pass (sym is) ∙ parts.0) (λ f later. found-passes test pass ys x later parts.1) e

asked : (w : List ℕ) (c : Opcode) → first_word_of w ≡ Some (first.Calls c) → is_asked c ≡ true
asked w c e = found-passes (λ f. bytes_eq (spelling f) w) is_asked_word first_words (first.Calls c) e refl

-- a name of the text is that of one of the objects, with its kind
abbrev pub AreFound : List Declaration → (List ℕ → Option Kind) → Type 0
AreFound ds named = (name : List ℕ) (k : Kind) → named name ≡ Some k → IsFound ds name k

not_false : (b : Bool) → not b ≡ false → b ≡ true
not_false true e = refl
not_false false e = absurd (cc)

module _ (ds : List Declaration) where
  call_fits : (c : Opcode) (name w : List ℕ) (k : Kind) → IsFound ds name k → is_asked c ≡ true → has_operation k c ≡ true → IsConditionIn c k w → is_call_on ds (number_named ds name) c (operand_said (operand_slots c) w) ≡ true
  call_fits c name w k at ask has within =
      let with = operand_said (operand_slots c) w in
      let o = op_with c (condition_of with) (pos 0) in
      let kinds : fits o at.0.kind ≡ fits o k = fits-unnumbered o at.0.kind ∙ ap (fits o) at.2 in
      ap (λ r. is_call_of r c with) (slice_get-map (λ (d : Declaration). d.kind) ds (number_named ds name) ∙ ap (option_map (λ d. d.kind)) at.1)
      ∙ and_from (is_asked c) (fits o at.0.kind) ask (kinds ∙ fits-said c k w has within)

  call_by : (p : Place) (c : Opcode) (found : Option Kind) (ws : List (List ℕ)) → ((k : Kind) → found ≡ Some k → IsFound ds (word_at 1 ws) k) → is_asked c ≡ true → Fine p (first.Calls c) found ws → is_call_on ds (number_named ds (word_at 1 ws)) c (operand_said (operand_slots c) (word_at 2 ws)) ≡ true
  call_by p c found [] known ask fine = let count = eqb-true 0 (suc (suc (length (operand_slots c)))) (not_false _ fine.count) in absurd (omega arith)
  call_by p c found (w ∷ []) known ask fine = let count = eqb-true 1 (suc (suc (length (operand_slots c)))) (not_false _ fine.count) in absurd (omega arith)
  call_by p c None (w ∷ name ∷ ws) known ask fine = absurd (let no : true ≡ false = fine.unknown in cc)
  call_by p c (Some k) (w ∷ name ∷ ws) known ask fine =
      let count = eqb-true (length (w ∷ name ∷ ws)) (suc (suc (length (operand_slots c)))) (not_false _ fine.count) in
      let has = not_false (has_operation k c) (or_parts (not (has_operation k c)) _ fine.of_kind).0 in
      let same : length ws ≡ length (operand_slots c) = omega arith in
      call_fits c name (word_at 0 ws) k (known k refl) ask has (condition_in p (first.Calls c) c k ws same fine.number)

  -- the instruction that a line says is one that a program may have
  pub instruction_fine : (named : List ℕ → Option Kind) → AreFound ds named → (p : Place) (ws : List (List ℕ)) (f : FirstWord) → first_word_of (word_at 0 ws) ≡ Some f → Fine p f (named (word_at 1 ws)) ws → is_instruction_on ds (instruction_said ds f ws) ≡ true
  instruction_fine named known p ws (first.Declares d) e fine = refl
  instruction_fine named known p ws (first.Calls c) e fine =
      and_from _ _ (call_by p c (named (word_at 1 ws)) ws (λ k. known (word_at 1 ws) k) (asked (word_at 0 ws) c e) fine) (operand_taken c (word_at 2 ws))
  instruction_fine named known p ws first.Set e fine = register_below (word_at 1 ws)
  instruction_fine named known p ws first.Inc e fine = register_below (word_at 1 ws)
  instruction_fine named known p ws first.Repeat e fine = turns_few (word_at 1 ws)
  instruction_fine named known p ws first.While e fine = register_below (word_at 1 ws)
  instruction_fine named known p ws first.If e fine = register_below (word_at 1 ws)
  instruction_fine named known p ws first.End e fine = refl
