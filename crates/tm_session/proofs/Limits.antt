-- What a thread may do next keeps its limit.
use Rattle.std.proofs.Common.{◌≡◌, Bool, true, false, if◌then◌else◌, Option, Some, None}
use Rattle.tm_base.specs.declared.operations.Op.{Op}
use Rattle.tm_base.specs.declared.operations.Op.TheVariants as op
use Rattle.tm_base.specs.declared.replies.Reply.{Reply}
use Rattle.tm_base.specs.declared.asks.Ask.{Ask}
use Rattle.tm_programs.specs.Programs.{Rest, asked_of, is_stopped, next_ask}
use Rattle.tm_base.specs.Fits.{is_call}
use Rattle.tm_session.specs.NextCalls.{IsWithin}

-- a call is within the limit where calls may be made
pub IsWithin-call : (calls : Bool) (last : Option Reply) (o : Op) → is_call o ≡ true → calls ≡ true → IsWithin calls last o
IsWithin-call calls last (op.End cut) call may = λ _. absurd (let e : false ≡ true = call in cc)
IsWithin-call calls last o call may = λ _. may

-- what a program asks is its next call
pub asked-next : (rest : Rest) (a : Ask) → asked_of rest ≡ Some a → next_ask rest.program rest.registers ≡ a
asked-next rest a e = by_last (is_stopped rest.last) e
  where
    by_last : (stopped : Bool) → (if stopped then None else Some (next_ask rest.program rest.registers)) ≡ Some a → next_ask rest.program rest.registers ≡ a
    by_last true e = absurd cc
    by_last false e = cc
