-- What programs ask is what their calls are.
use Rattle.std.proofs.Common.{◌≡◌, ℕ, ℤ, pos, Bool, true, false, if◌then◌else◌, List, Option, Some, None, slice_get, refl, ◌∙◌}
use Rattle.std.proofs.lemmas.Bool.{and_parts}
use Rattle.tm_base.specs.declared.asks.Ask.{Ask}
use Rattle.tm_base.specs.declared.kinds.Kind.{Kind}
use Rattle.tm_base.specs.declared.kinds.Kind.TheVariants as kind
use Rattle.tm_base.specs.declared.opcodes.Opcode.{Opcode}
use Rattle.tm_base.specs.declared.opcodes.Opcode.TheVariants as opcode
use Rattle.tm_base.specs.Bodies.{IsCallAmong}
use Rattle.tm_base.specs.Fits.{fits, is_call}
use Rattle.tm_base.specs.Opcodes.{op_with}
use Rattle.tm_programs.specs.declared.instructions.Operand.{Operand}
use Rattle.tm_programs.specs.Programs.{Call, Rest, asked_of, condition_of, is_stopped, op_of, value_of}
use Rattle.tm_text.specs.Exercises.{is_asked, is_call_of}
use Rattle.tm_text.specs.Scripts.{AskedCallsFit, ask_of}

-- the value of a call makes no difference to whether its object has it
fits-value : (code : Opcode) (c : ℕ) (v w : ℤ) (k : Kind) → fits (op_with code c v) k ≡ fits (op_with code c w) k
fits-value opcode.Send c v w kind.Sync = refl
fits-value opcode.Send c v w (kind.Async n) = refl
fits-value opcode.Write c v w (kind.Var n) = refl
fits-value opcode.Add c v w (kind.Var n) = refl
fits-value code c v w k = refl

-- what a program can ask is a call
asked-call : (code : Opcode) (c : ℕ) (v : ℤ) → is_asked code ≡ true → is_call (op_with code c v) ≡ true
asked-call opcode.Begin c v e = absurd cc
asked-call opcode.End c v e = absurd cc
asked-call opcode.Resume c v e = absurd cc
asked-call opcode.Stop c v e = absurd cc
asked-call code c v e = refl

call-among : (kinds : List Kind) (object : ℕ) (code : Opcode) (with : Operand) (registers : List ℤ) (found : Option Kind)
    → slice_get kinds object ≡ found → is_call_of found code with ≡ true → IsCallAmong kinds object (op_of registers code with)
call-among kinds object code with registers None e h = absurd cc
call-among kinds object code with registers (Some k) e h =
    let both = and_parts (is_asked code) (fits (op_with code (condition_of with) (pos 0)) k) h in
    record {
      kind = k;
      found = e;
      fit = fits-value code (condition_of with) (value_of registers with) (pos 0) k ∙ both.1;
      call = asked-call code (condition_of with) (value_of registers with) both.0;
    }

pub asked_calls_fit : AskedCallsFit
asked_calls_fit kinds (Call object code with next) registers h = call-among kinds object code with registers (slice_get kinds object) refl h.0
asked_calls_fit kinds p registers h = tt

asked-by : (stopped : Bool) (a b : Ask) → (if stopped then None else Some a) ≡ Some b → a ≡ b
asked-by true a b e = absurd cc
asked-by false a b e = cc

-- what is asked at all is what comes next
pub asked-is : (rest : Rest) (a : Ask) → asked_of rest ≡ Some a → ask_of rest ≡ a
asked-is rest a e = asked-by (is_stopped rest.last) (ask_of rest) a e
