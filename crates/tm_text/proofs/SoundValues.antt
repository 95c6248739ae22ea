-- What the lines of a well-formed exercise say fits the slots of their first words.
use Rattle.std.proofs.Common.{◌≡◌, ℕ, ◌-◌, ◌≤◌, ℤ, pos, ◌-ℤ◌, int_le, true, false, nat_lt, ltb, List, [], ◌∷◌, length, Option, Some, refl, arith}
use Rattle.std.specs.List.{list_all}
use Rattle.std.proofs.lemmas.Bool.{and_parts, cond_both, le-leb, ltb-true, lt-ltb}
use Rattle.tm_base.specs.declared.kinds.Kind.{Kind}
use Rattle.tm_base.specs.declared.kinds.Kind.TheVariants as kind
use Rattle.tm_base.specs.declared.operations.Op.{Op}
use Rattle.tm_base.specs.declared.operations.Op.TheVariants as op
use Rattle.tm_base.specs.declared.opcodes.Opcode.{Opcode}
use Rattle.tm_base.specs.declared.opcodes.Opcode.TheVariants as opcode
use Rattle.tm_base.specs.Fits.{fits}
use Rattle.tm_base.specs.Opcodes.{op_with, word_of}
use Rattle.tm_programs.specs.declared.instructions.Operand.{Operand}
use Rattle.tm_programs.specs.declared.instructions.Operand.TheVariants as operand
use Rattle.tm_programs.specs.Programs.{condition_of}
use Rattle.tm_lines.specs.declared.first_words.FirstWord.{FirstWord}
use Rattle.tm_lines.specs.declared.first_words.FirstWord.TheVariants as first
use Rattle.tm_lines.specs.declared.limits.TheConstants.{GREATEST_NUMBER, LEAST_NUMBER}
use Rattle.tm_lines.specs.FirstWords.{first_word_of, operand_slots, slots_of}
use Rattle.tm_lines.specs.LineFaults.{Place, has_operation}
use Rattle.tm_text.specs.declared.values.Value.{Value}
use Rattle.tm_text.specs.declared.values.Value.TheVariants as value
use Rattle.tm_text.specs.CanonicalTexts.{is_long}
use Rattle.tm_text.specs.Exercises.{IsKindRead, is_asked, takes}
use Rattle.tm_text.specs.SpelledLines.{line_of_kind, values_of_operand}
use Rattle.tm_text.proofs.FittingValues.{AllFit}
use Rattle.tm_text.proofs.SaidNames.{unnumbered}
use Rattle.tm_text.proofs.SaidObjects.{IsNew}
use Rattle.tm_text.proofs.SaidValues.{IsIn}
use Rattle.tm_text.proofs.WrittenValues.{IsLong}

-- an operation that can be asked is read back from its word
pub call_back : (c : Opcode) → is_asked c ≡ true → first_word_of (word_of c) ≡ Some (first.Calls c)
call_back opcode.Begin h = absurd (cc)
call_back opcode.End h = absurd (cc)
call_back opcode.Resume h = absurd (cc)
call_back opcode.Stop h = absurd (cc)
call_back c h = refl

-- the numbers of these values are of 64 bits
abbrev pub Longs : List Value → Type 0
Longs vs = list_all is_long vs ≡ true

pub longs_first : (v : Value) (vs : List Value) → Longs (v ∷ vs) → (is_long v ≡ true) × Longs vs
longs_first v vs h = and_parts (is_long v) (list_all is_long vs) h

pub long_number : (k : ℤ) (vs : List Value) → Longs (value.Number k ∷ vs) → IsLong k
long_number k vs h = and_parts (int_le LEAST_NUMBER k) (int_le k GREATEST_NUMBER) (longs_first (value.Number k) vs h).0

pub natural_in : (l n m : ℕ) → l ≤ n → n ≤ m → IsIn (pos l) (pos m) (pos n)
natural_in l n m least most = (le-leb l n least, le-leb n m most)

-- what declares an object fits
pub kind_fits : (p : Place) (found : Option Kind) (name : List ℕ) (k : Kind) → IsNew p.earlier name → IsKindRead k → Longs (line_of_kind name k).values
    → AllFit p (line_of_kind name k).first found (slots_of (line_of_kind name k).first) (line_of_kind name k).values
kind_fits p found name (kind.Sem n) new read long = (new, ((long_number (pos n) [] long, natural_in 0 n 1000000 (omega arith) read), tt))
kind_fits p found name (kind.Hoare n) new read long = (new, (tt, ((long_number (pos n) [] long, natural_in 1 n 16 read.0 read.1), tt)))
kind_fits p found name (kind.Mesa n) new read long = (new, (tt, ((long_number (pos n) [] long, natural_in 1 n 16 read.0 read.1), tt)))
kind_fits p found name (kind.Barrier n) new read long = (new, ((long_number (pos n) [] long, natural_in 1 n 64 read.0 read.1), tt))
kind_fits p found name (kind.Async n) new read long = (new, ((long_number (pos n) [] long, natural_in 1 n 65535 read.0 read.1), tt))
kind_fits p found name (kind.Var k) new read long = (new, ((long_number k [] long, long_number k [] long), tt))
kind_fits p found name (kind.Thread own true) new read long = (new, (tt, tt))
kind_fits p found name (kind.Thread own false) new read long = (new, tt)
kind_fits p found name k new read long = (new, tt)

-- a condition is one of the monitor's
condition_in : (n m : ℕ) → nat_lt n m ≡ true → IsIn (pos 0) (pos m -ℤ pos 1) (pos n)
condition_in n m h =
    let below = ltb-true n m h in (
      le-leb 0 n (omega arith),
      cond_both (ltb m 1) _ (pos (m - 1)) (λ r. int_le (pos n) r ≡ true)
          (λ t. let few = ltb-true m 1 t in absurd (omega arith))
          (λ f. le-leb n (m - 1) (omega arith)),
    )

-- what a call has beside its object fits
pub operand_fits : (p : Place) (f : FirstWord) (k : Kind) (c : Opcode) (with : Operand) → takes c with ≡ true → fits (op_with c (condition_of with) (pos 0)) k ≡ true → Longs (values_of_operand with)
    → AllFit p f (Some k) (operand_slots c) (values_of_operand with) × (length (values_of_operand with) ≡ length (operand_slots c))
operand_fits p f k opcode.TryLock (operand.Register r) taken fit long = ((ltb-true r 8 taken, tt), refl)
operand_fits p f k opcode.TryP (operand.Register r) taken fit long = ((ltb-true r 8 taken, tt), refl)
operand_fits p f k opcode.Recv (operand.Register r) taken fit long = ((ltb-true r 8 taken, tt), refl)
operand_fits p f k opcode.Read (operand.Register r) taken fit long = ((ltb-true r 8 taken, tt), refl)
operand_fits p f k opcode.Send (operand.Register r) taken fit long = ((ltb-true r 8 taken, tt), refl)
operand_fits p f k opcode.Send (operand.Number n) taken fit long = ((long_number n [] long, tt), refl)
operand_fits p f k opcode.Write (operand.Register r) taken fit long = ((ltb-true r 8 taken, tt), refl)
operand_fits p f k opcode.Write (operand.Number n) taken fit long = ((long_number n [] long, tt), refl)
operand_fits p f k opcode.Add (operand.Register r) taken fit long = ((ltb-true r 8 taken, tt), refl)
operand_fits p f k opcode.Add (operand.Number n) taken fit long = ((long_number n [] long, tt), refl)
operand_fits p f (kind.Hoare m) opcode.Wait (operand.Condition n) taken fit long = (((long_number (pos n) [] long, condition_in n m fit), tt), refl)
operand_fits p f (kind.Mesa m) opcode.Wait (operand.Condition n) taken fit long = (((long_number (pos n) [] long, condition_in n m fit), tt), refl)
operand_fits p f (kind.Hoare m) opcode.Signal (operand.Condition n) taken fit long = (((long_number (pos n) [] long, condition_in n m fit), tt), refl)
operand_fits p f (kind.Mesa m) opcode.Signal (operand.Condition n) taken fit long = (((long_number (pos n) [] long, condition_in n m fit), tt), refl)
operand_fits p f (kind.Mesa m) opcode.Broadcast (operand.Condition n) taken fit long = (((long_number (pos n) [] long, condition_in n m fit), tt), refl)
operand_fits p f k opcode.TryLock with taken fit long = absurd (let no : false ≡ true = taken in cc)
operand_fits p f k opcode.TryP with taken fit long = absurd (let no : false ≡ true = taken in cc)
operand_fits p f k opcode.Recv with taken fit long = absurd (let no : false ≡ true = taken in cc)
operand_fits p f k opcode.Read with taken fit long = absurd (let no : false ≡ true = taken in cc)
operand_fits p f k opcode.Send with taken fit long = absurd (let no : false ≡ true = taken in cc)
operand_fits p f k opcode.Write with taken fit long = absurd (let no : false ≡ true = taken in cc)
operand_fits p f k opcode.Add with taken fit long = absurd (let no : false ≡ true = taken in cc)
operand_fits p f k opcode.Wait (operand.Condition n) taken fit long = absurd (let no : false ≡ true = fit in cc)
operand_fits p f k opcode.Wait with taken fit long = absurd (let no : false ≡ true = taken in cc)
operand_fits p f k opcode.Signal (operand.Condition n) taken fit long = absurd (let no : false ≡ true = fit in cc)
operand_fits p f k opcode.Signal with taken fit long = absurd (let no : false ≡ true = taken in cc)
operand_fits p f k opcode.Broadcast (operand.Condition n) taken fit long = absurd (let no : false ≡ true = fit in cc)
operand_fits p f k opcode.Broadcast with taken fit long = absurd (let no : false ≡ true = taken in cc)
operand_fits p f k c operand.Nothing taken fit long = (tt, refl)
operand_fits p f k c with taken fit long = absurd (let no : false ≡ true = taken in cc)

some_condition : (n m : ℕ) → nat_lt n m ≡ true → nat_lt 0 m ≡ true
some_condition n m h = let below = ltb-true n m h in lt-ltb 0 m (omega arith)

-- the operation is one that the kind has, whatever condition it has
pub operation_of : (c : Opcode) (n : ℕ) (k : Kind) → fits (op_with c n (pos 0)) k ≡ true → has_operation k c ≡ true
operation_of opcode.Wait n (kind.Hoare m) h = some_condition n m h
operation_of opcode.Wait n (kind.Mesa m) h = some_condition n m h
operation_of opcode.Signal n (kind.Hoare m) h = some_condition n m h
operation_of opcode.Signal n (kind.Mesa m) h = some_condition n m h
operation_of opcode.Broadcast n (kind.Mesa m) h = some_condition n m h
operation_of c n k h = h

pub fits-unnumbered : (o : Op) (k : Kind) → fits o k ≡ fits o (unnumbered k)
fits-unnumbered op.Lock (kind.Thread own held) = refl
fits-unnumbered o (kind.Thread own held) = refl
fits-unnumbered o k = refl
