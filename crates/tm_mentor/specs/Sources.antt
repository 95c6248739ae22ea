-- What a command reads that needs a text from its source, and what it answers where there is none.
use Rattle.std.specs.Prelude.{◌≡◌, ◌+◌, ℕ, List, Option}
use Rattle.std.specs.Option.{IfSome}
use Rattle.tm_base.specs.Counters.{next_count}
use Rattle.tm_outside.specs.declared.reading.ReadFault.{ReadFault}
use Rattle.tm_outside.specs.declared.reading.ReadFault.TheVariants as fault
use Rattle.tm_outside.specs.Taking.{IsAtEnd, TakesAtMost}
use Rattle.tm_mentor.specs.declared.answers.Answer.{Answer}
use Rattle.tm_mentor.specs.declared.answers.Answer.TheVariants as answer
use Rattle.tm_mentor.specs.declared.readings.ReadError.{ReadError}
use Rattle.tm_mentor.specs.declared.readings.ReadError.TheVariants as unread
use Rattle.tm_mentor.specs.declared.refusals.Refusal.{Refusal}
use Rattle.tm_mentor.specs.declared.refusals.Refusal.TheVariants as refusal
use Rattle.tm_mentor.specs.Answers.{Sends}
use Rattle.tm_mentor.specs.Outside.{Exchange, Input}
use Rattle.tm_mentor.specs.Refusals.{line_of}

-- At most one byte more than a text may have, which is `most`, was taken from the source, where it tells its bytes.
abbrev pub ReadsAtMost : ℕ → Option (List ℕ) → Option (List ℕ) → Type 0
ReadsAtMost most old new = TakesAtMost (most + 1) old new

-- The source was read to its end with no fault, and all the bytes that it had left, where it tells them, are such a
-- text.
pub record HasText (IsText : List ℕ → Type 0) (old new : Input) : Type 0 where
  pub end : IsAtEnd new.left
  pub steady : new.faults ≡ old.faults
  pub told : IfSome old.left IsText

-- The source has no fault, and all the bytes that it had left, where it tells them, have such a fault.
pub record HasFaultyText (most : ℕ) (IsFaulty : List ℕ → Type 0) (old new : Input) : Type 0 where
  pub taken : ReadsAtMost most old.left new.left
  pub steady : new.faults ≡ old.faults
  pub first : IfSome old.left IsFaulty

-- One read of the source failed, and no other did.
pub record HasReadFault (most : ℕ) (old new : Input) : Type 0 where
  pub taken : ReadsAtMost most old.left new.left
  pub counted : new.faults ≡ next_count old.faults

-- Memory ran out while the source was read, which has no fault.
pub record IsUnknown (most : ℕ) (old new : Input) : Type 0 where
  pub taken : ReadsAtMost most old.left new.left
  pub steady : new.faults ≡ old.faults

-- Why there is no text: a read failed, or what was read is no text, for which this is the refusal.
abbrev pub IsCause : ℕ → (Refusal → Input → Input → Type 0) → Refusal → Input → Input → Type 0
IsCause most HasNoText refusal.ReadFault old new = HasReadFault most old new
IsCause most HasNoText r old new = HasNoText r old new

-- What a fault of reading a source is to a command.
abbrev pub read_error : ReadFault → ReadError
read_error fault.Failed = unread.Refused refusal.ReadFault
read_error fault.NoMemory = unread.NoMemory

-- Why none was read: there is such a cause, or memory ran out.
abbrev pub IsReadError : ℕ → (Refusal → Input → Input → Type 0) → ReadError → Input → Input → Type 0
IsReadError most HasNoText (unread.Refused r) old new = IsCause most HasNoText r old new
IsReadError most HasNoText unread.NoMemory old new = IsUnknown most old new

-- No text was read, for the cause whose line was sent; or memory ran out before that.
abbrev pub RefusesText : ℕ → (Refusal → Input → Input → Type 0) → Exchange → Answer → Type 0
RefusesText most HasNoText o (answer.Refused r failed) =
    IsCause most HasNoText r o.source_before o.source_after × Sends failed o.sink_before o.sink_after (line_of r)
RefusesText most HasNoText o answer.NoMemory =
    IsUnknown most o.source_before o.source_after × (o.sink_after ≡ o.sink_before)
RefusesText most HasNoText o a = ⊥
