-- What words say lies in its range, and so the kinds and the operands that they say are ones that may be.
use Rattle.std.proofs.Common.{◌≡◌, ℕ, ◌-◌, ◌≤◌, ◌<◌, ℤ, pos, negsuc, nat_abs, int_le, Bool, true, false, ◌&&◌, ◌==◌, nat_le, nat_lt, List, [], ◌∷◌, codes, bytes_eq, Option, Some, None, option_and_then, unwrap_or, refl, arith}
use Rattle.std.proofs.lemmas.Bool.{and_parts, cond_both, leb-true, lt-ltb, le-leb}
use Rattle.tm_base.specs.declared.kinds.Kind.TheVariants as kind
use Rattle.tm_base.specs.declared.opcodes.Opcode.{Opcode}
use Rattle.tm_base.specs.declared.opcodes.Opcode.TheVariants as opcode
use Rattle.tm_programs.specs.declared.instructions.Operand.TheVariants as operand
use Rattle.tm_lines.specs.declared.first_words.Declarator.{Declarator}
use Rattle.tm_lines.specs.declared.first_words.Declarator.TheVariants as declares
use Rattle.tm_lines.specs.declared.limits.TheConstants.{MOST_CONDITIONS, MOST_TURNS}
use Rattle.tm_lines.specs.Numerals.{begins_with_r, integer_of, unless_outside}
use Rattle.tm_lines.specs.FirstWords.{operand_slots}
use Rattle.tm_lines.specs.NamedLines.{conditions_said, kind_by, natural_or, number_or}
use Rattle.tm_text.specs.Exercises.{IsKindRead, takes, thread_of_kind}
use Rattle.tm_text.specs.Texts.{number_said, operand_said, register_said}

-- the number is none below the least, and none above the most
abbrev pub IsIn : ℤ → ℤ → ℤ → Type 0
IsIn least most k = (int_le least k ≡ true) × (int_le k most ≡ true)

unwrap-is_in : (other least most k : ℤ) → IsIn least most other → IsIn least most (unwrap_or (unless_outside least most k) other)
unwrap-is_in other least most k h =
    cond_both (int_le least k && int_le k most) (Some k) None (λ r. IsIn least most (unwrap_or r other)) (λ t. and_parts (int_le least k) (int_le k most) t) (λ f. h)

found-is_in : (other least most : ℤ) (o : Option ℤ) → IsIn least most other → IsIn least most (unwrap_or (option_and_then (unless_outside least most) o) other)
found-is_in other least most None h = h
found-is_in other least most (Some k) h = unwrap-is_in other least most k h

pub number_or-is_in : (other least most : ℤ) (w : List ℕ) → IsIn least most other → IsIn least most (number_or other least most w)
number_or-is_in other least most w h = found-is_in other least most (integer_of w) h

natural-is_in : (l m : ℕ) (k : ℤ) → IsIn (pos l) (pos m) k → (l ≤ nat_abs k) × (nat_abs k ≤ m)
natural-is_in l m (pos n) h = (leb-true l n h.0, leb-true n m h.1)
natural-is_in l m (negsuc n) h = absurd (let no : false ≡ true = h.0 in cc)

pub natural_or-is_in : (other l m : ℕ) (w : List ℕ) → IsIn (pos l) (pos m) (pos other) → (l ≤ natural_or other (pos l) (pos m) w) × (natural_or other (pos l) (pos m) w ≤ m)
natural_or-is_in other l m w h = natural-is_in l m (number_or (pos other) (pos l) (pos m) w) (number_or-is_in (pos other) (pos l) (pos m) w h)

conditions-are_in : (w : List ℕ) → (1 ≤ conditions_said w) × (conditions_said w ≤ 16)
conditions-are_in w = natural-is_in 1 16 (number_or MOST_CONDITIONS (pos 1) MOST_CONDITIONS w) (number_or-is_in MOST_CONDITIONS (pos 1) MOST_CONDITIONS w (refl, refl))

-- the kind that a line says is one that a text can declare
pub kind_read : (t : ℕ) (d : Declarator) (third fourth : List ℕ) → IsKindRead (kind_by t d third fourth)
kind_read t declares.Sem third fourth = (natural_or-is_in 0 0 1000000 third (refl, refl)).1
kind_read t declares.Monitor third fourth =
    cond_both (bytes_eq third (codes "hoare")) (kind.Hoare (conditions_said fourth)) (kind.Mesa (conditions_said fourth)) IsKindRead
    (λ e. conditions-are_in fourth) (λ e. conditions-are_in fourth)
kind_read t declares.Barrier third fourth = natural_or-is_in 1 1 64 third (refl, refl)
kind_read t declares.Async third fourth = natural_or-is_in 1 1 65535 third (refl, refl)
kind_read t d third fourth = tt

-- the declarator is that of a thread
abbrev pub is_thread : Declarator → Bool
is_thread declares.Thread = true
is_thread d = false

pub not_thread : (t : ℕ) (d : Declarator) (third fourth : List ℕ) → is_thread d ≡ false → thread_of_kind (kind_by t d third fourth) ≡ None
not_thread t declares.Thread third fourth h = absurd (cc)
not_thread t declares.Monitor third fourth h =
    cond_both (bytes_eq third (codes "hoare")) (kind.Hoare (conditions_said fourth)) (kind.Mesa (conditions_said fourth)) (λ k. thread_of_kind k ≡ None) (λ e. refl) (λ e. refl)
not_thread t d third fourth h = refl

-- a register is one of the eight
pub register_below : (w : List ℕ) → nat_lt (register_said w) 8 ≡ true
register_below [] = refl
register_below (r ∷ []) = refl
register_below (r ∷ b ∷ []) =
    cond_both (r == 114 && (nat_le 48 b && nat_le b 55)) (Some (b - 48)) None (λ o. nat_lt (unwrap_or o 0) 8 ≡ true)
    (λ t. let parts = and_parts (nat_le 48 b) (nat_le b 55) (and_parts (r == 114) (nat_le 48 b && nat_le b 55) t).1 in
    let most = leb-true b 55 parts.1 in
    let below : b - 48 < 8 = omega arith in
    lt-ltb (b - 48) 8 below)
    (λ f. refl)
register_below (r ∷ b ∷ c ∷ w) = refl

-- a call has beside its object what the operation takes
value_taken : (c : Opcode) (w : List ℕ) → ((r : ℕ) → nat_lt r 8 ≡ true → takes c (operand.Register r) ≡ true) → ((k : ℤ) → takes c (operand.Number k) ≡ true) → takes c (operand_said (operand_slots opcode.Send) w) ≡ true
value_taken c w register number =
    cond_both (begins_with_r w) (operand.Register (register_said w)) (operand.Number (number_said w)) (λ o. takes c o ≡ true)
    (λ t. register (register_said w) (register_below w)) (λ f. number (number_said w))

pub operand_taken : (c : Opcode) (w : List ℕ) → takes c (operand_said (operand_slots c) w) ≡ true
operand_taken opcode.TryLock w = register_below w
operand_taken opcode.TryP w = register_below w
operand_taken opcode.Recv w = register_below w
operand_taken opcode.Read w = register_below w
operand_taken opcode.Send w = value_taken opcode.Send w (λ r h. h) (λ k. refl)
operand_taken opcode.Write w = value_taken opcode.Write w (λ r h. h) (λ k. refl)
operand_taken opcode.Add w = value_taken opcode.Add w (λ r h. h) (λ k. refl)
operand_taken c w = refl

-- a `repeat` has no more turns than it may have
pub turns_few : (w : List ℕ) → nat_le (natural_or 0 (pos 0) MOST_TURNS w) 1000000 ≡ true
turns_few w = le-leb (natural_or 0 (pos 0) MOST_TURNS w) 1000000 (natural_or-is_in 0 0 1000000 w (refl, refl)).1
