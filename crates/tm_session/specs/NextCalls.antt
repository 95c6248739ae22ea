-- What a thread does next.
use Rattle.std.specs.Prelude.{◌≡◌, ℕ, Bool, true, false, Option, MatchBool}
use Rattle.tm_base.specs.declared.operations.Op.{Op}
use Rattle.tm_base.specs.declared.operations.Op.TheVariants as op
use Rattle.tm_base.specs.declared.replies.Reply.{Reply}
use Rattle.tm_base.specs.declared.asks.Ask.TheVariants as ask
use Rattle.tm_base.specs.Fits.{is_call}
use Rattle.tm_programs.specs.Programs.{Rest, is_stopped, next_ask}
use Rattle.tm_replay.specs.declared.phases.Phase.{Phase}
use Rattle.tm_replay.specs.declared.phases.Phase.TheVariants as phase

-- A program thread that hasn't ended.
abbrev pub GoesOn : Phase → Type 0
GoesOn phase.Main = ⊥
GoesOn (phase.Ended cut) = ⊥
GoesOn p = Unit {0}

-- Where the thread may make calls it ends cut only after the reply `stopped`; where it may not it makes none.
abbrev pub IsWithin : Bool → Option Reply → Op → Type 0
IsWithin calls last (op.End cut) = cut ≡ true → MatchBool (is_stopped last) (Unit {0}) (calls ≡ false)
IsWithin calls last o = is_call o ≡ true → calls ≡ true

-- What is asked of which this is left is a call.
abbrev pub AsksCalls : Rest → Type 0
AsksCalls rest = (object : ℕ) (o : Op) → next_ask rest.program rest.registers ≡ ask.Call object o → is_call o ≡ true
