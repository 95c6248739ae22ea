-- A shared variable: a signed number of 64 bits. Nobody waits.
use Rattle.std.specs.Prelude.{ℤ, ◌+ℤ◌}
use Rattle.std.specs.Int.{w64, saturate_signed}
use Rattle.tm_base.specs.declared.operations.Op.{Op}
use Rattle.tm_base.specs.declared.operations.Op.TheVariants as op
use Rattle.tm_base.specs.declared.replies.Reply.TheVariants as reply
use Rattle.tm_base.specs.States.{VarState}
use Rattle.tm_base.specs.TableRows.{Row, Replies, Never, makes}

-- The row of an operation on a variable with this value. `add` saturates.
abbrev pub var_row : ℤ → Op → Row
var_row value op.Read = Replies (reply.Got value)
var_row value (op.Write k) = makes reply.Ok (VarState k)
var_row value (op.Add k) = makes (reply.Got (saturate_signed w64 (value +ℤ k))) (VarState (saturate_signed w64 (value +ℤ k)))
var_row value o = Never
