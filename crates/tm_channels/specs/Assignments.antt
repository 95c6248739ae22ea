-- What the writes and additions to a variable leave, and what is read of it.
use Rattle.std.specs.Prelude.{◌≡◌, ℤ, ◌+ℤ◌, List, [], ◌∷◌, ◌++◌}
use Rattle.std.specs.Int.{w64, saturate_signed}
use Rattle.tm_base.specs.declared.operations.Op.{Op}
use Rattle.tm_base.specs.declared.operations.Op.TheVariants as op
use Rattle.tm_base.specs.declared.replies.Reply.TheVariants as reply
use Rattle.tm_base.specs.declared.kinds.Kind.TheVariants as kind
use Rattle.tm_base.specs.declared.events.Entry.{Entry}
use Rattle.tm_base.specs.Histories.{Label, HistoryState, IsHistory}

-- The value after an operation: what was written, or the sum, saturated.
abbrev pub value_after : ℤ → Op → ℤ
value_after value (op.Write k) = k
value_after value (op.Add k) = saturate_signed w64 (value +ℤ k)
value_after value o = value

-- The value that events leave, one after another.
abbrev pub value_left : ℤ → List Entry → ℤ
value_left value [] = value
value_left value (e ∷ es) = value_left (value_after value e.op) es

-- An event at a variable with this value: a `read` gets the value, and an `add` the saturated sum.
pub record GetsValue (value : ℤ) (e : Entry) : Type 0 where
  pub read : e.op ≡ op.Read → e.reply ≡ reply.Got value
  pub add : (k : ℤ) → e.op ≡ op.Add k → e.reply ≡ reply.Got (saturate_signed w64 (value +ℤ k))

-- In every legal history of a variable each `read` and `add` gets what the writes and additions before
-- it leave.
abbrev pub ReadsGetWhatWasWritten : Type 0
ReadsGetWhatWasWritten =
    (l : Label) (start : ℤ) (es : List Entry) (p : HistoryState) →
    l.kind ≡ kind.Var start → IsHistory l es p →
    (prefix back : List Entry) (e : Entry) → es ≡ prefix ++ e ∷ back → GetsValue (value_left start prefix) e
