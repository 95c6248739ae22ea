-- What is left of a program has no other calls than the program.
use Rattle.std.proofs.Common.{ℕ, zero, suc, ℤ, Bool, true, false, if◌then◌else◌, List, Option, Some, None}
use Rattle.tm_base.specs.declared.opcodes.Opcode.{Opcode}
use Rattle.tm_base.specs.declared.replies.Reply.{Reply}
use Rattle.tm_programs.specs.declared.instructions.Operand.{Operand}
use Rattle.tm_programs.specs.Programs.{Program, Over, Call, Set, Inc, Repeat, While, If, Remainder, Rest, followed, joined, holds, register_of, until_call, left_after, answered}
use Rattle.tm_programs.specs.Calls.{AllCalls}

module _ (P : ℕ → Opcode → Operand → Type 0) where
  pub AllCalls-followed : (p q : Program) → AllCalls P p → AllCalls P q → AllCalls P (followed p q)
  AllCalls-followed Over q one other = other
  AllCalls-followed (Call object code with next) q one other = (one.0, AllCalls-followed next q one.1 other)
  AllCalls-followed (Set register value next) q one other = AllCalls-followed next q one other
  AllCalls-followed (Inc register value next) q one other = AllCalls-followed next q one other
  AllCalls-followed (Repeat turns body next) q one other = (one.0, AllCalls-followed next q one.1 other)
  AllCalls-followed (While register how value body next) q one other =
      (one.0, AllCalls-followed next q one.1 other)
  AllCalls-followed (If register how value body next) q one other =
      (one.0, AllCalls-followed next q one.1 other)

  AllCalls-joined : (p : Program) (rs : List ℤ) (q : Program) (f : List ℤ → Remainder) → AllCalls P p
      → AllCalls P q
      → ((now : List ℤ) → AllCalls P (f now).program) → AllCalls P (joined p rs q f).program
  AllCalls-joined Over rs q f one other goes = goes rs
  AllCalls-joined (Call object code with next) rs q f one other goes =
      AllCalls-followed (Call object code with next) q one other
  AllCalls-joined (Set register value next) rs q f one other goes = AllCalls-followed next q one other
  AllCalls-joined (Inc register value next) rs q f one other goes = AllCalls-followed next q one other
  AllCalls-joined (Repeat turns body next) rs q f one other goes =
      AllCalls-followed (Repeat turns body next) q one other
  AllCalls-joined (While register how value body next) rs q f one other goes =
      AllCalls-followed (While register how value body next) q one other
  AllCalls-joined (If register how value body next) rs q f one other goes =
      AllCalls-followed (If register how value body next) q one other

  either : (b : Bool) (x y : Remainder) → AllCalls P x.program → AllCalls P y.program
      → AllCalls P (if b then x else y).program
  either true x y left_calls right_calls = left_calls
  either false x y left_calls right_calls = right_calls

  pub AllCalls-until_call : (p : Program) (rs : List ℤ) → AllCalls P p → AllCalls P (until_call p rs).program
  AllCalls-until_call Over rs calls = calls
  AllCalls-until_call (Call object code with next) rs calls = calls
  AllCalls-until_call (Set register value next) rs calls = AllCalls-until_call next _ calls
  AllCalls-until_call (Inc register value next) rs calls = AllCalls-until_call next _ calls
  AllCalls-until_call (Repeat zero body next) rs calls = AllCalls-until_call next rs calls.1
  AllCalls-until_call (Repeat (suc turns) body next) rs calls =
      AllCalls-joined (until_call body rs).program _ (Repeat turns body next) _
      (AllCalls-until_call body rs calls.0) calls (λ now. AllCalls-until_call next now calls.1)
  AllCalls-until_call (While register how value body next) rs calls =
      either (holds how (register_of rs register) value) _ _
      (AllCalls-joined (until_call body rs).program _ (While register how value body next) _
      (AllCalls-until_call body rs calls.0) calls (λ now. AllCalls-until_call next now calls.1))
      (AllCalls-until_call next rs calls.1)
  AllCalls-until_call (If register how value body next) rs calls =
      either (holds how (register_of rs register) value) _ _
      (AllCalls-joined (until_call body rs).program _ next _ (AllCalls-until_call body rs calls.0) calls.1
      (λ now. AllCalls-until_call next now calls.1))
      (AllCalls-until_call next rs calls.1)

  AllCalls-left_after : (last : Option Reply) (p : Program) (rs : List ℤ) (answer : Reply) → AllCalls P p
      → AllCalls P (left_after last p rs answer).program
  AllCalls-left_after None p rs answer calls = AllCalls-until_call p rs calls
  AllCalls-left_after (Some before) (Call object code with next) rs answer calls =
      AllCalls-until_call next _ calls.1
  AllCalls-left_after (Some before) p rs answer calls = calls

  -- what holds of every call of what is left holds after one more reply
  pub AllCalls-answered : (rest : Rest) (answer : Reply) → AllCalls P rest.program
      → AllCalls P (answered rest answer).program
  AllCalls-answered rest answer calls = AllCalls-left_after rest.last rest.program rest.registers answer calls
