-- The command that judges a trace: what it reads, and what it answers.
use Rattle.std.specs.Prelude.{◌≡◌, ◌⊎◌, ℕ, suc, Bool, List}
use Rattle.tm_base.specs.declared.events.Entry.{Entry}
use Rattle.tm_outside.specs.Appending.{AppendsProperPrefix}
use Rattle.tm_text.specs.Exercises.{ExerciseView}
use Rattle.tm_order.specs.LegalEvents.{AreLegal}
use Rattle.tm_trace.specs.declared.faults.JudgeFault.{JudgeFault}
use Rattle.tm_trace.specs.declared.faults.JudgeFault.TheVariants as judged
use Rattle.tm_trace.specs.Judging.{IsAccepted, IsFault}
use Rattle.tm_trace_texts.specs.declared.limits.TheConstants.{MOST_TRACE_BYTES}
use Rattle.tm_trace_texts.specs.declared.trace_faults.TraceFault.TheVariants as fault
use Rattle.tm_trace_texts.specs.TraceFaults.{IsRefusal}
use Rattle.tm_trace_texts.specs.TraceTexts.{IsTraceText}
use Rattle.tm_refusal_lines.specs.RefusalTexts.{refusal_text}
use Rattle.tm_legal_rows.specs.LegalTexts.{IsLegalText}
use Rattle.tm_mentor.specs.declared.answers.Answer.{Answer}
use Rattle.tm_mentor.specs.declared.answers.Answer.TheVariants as answer
use Rattle.tm_mentor.specs.declared.refusals.Refusal.{Refusal}
use Rattle.tm_mentor.specs.declared.refusals.Refusal.TheVariants.{NoTrace, Text}
use Rattle.tm_mentor.specs.Answers.{Sends}
use Rattle.tm_mentor.specs.Outside.{Exchange, Input, Output}
use Rattle.tm_mentor.specs.Sources.{HasFaultyText, HasText, RefusesText}

-- The bytes are the text of no trace.
abbrev pub IsNoTrace : List ℕ → Type 0
IsNoTrace bytes = (x : ExerciseView) (es : List Entry) → ¬ IsTraceText bytes x es

-- A text of the trace of this exercise and these events was read.
abbrev pub HasTrace : Input → Input → ExerciseView → List Entry → Type 0
HasTrace old new x es = HasText (λ bytes. IsTraceText bytes x es) old new

-- A text was read none of whose lines is `trace`. The line is the one behind the last.
pub record LacksTrace (old new : Input) (line : ℕ) : Type 0 where
  pub lines : ℕ
  pub behind : line ≡ suc lines
  pub text : HasFaultyText MOST_TRACE_BYTES (λ bytes. IsRefusal bytes (fault.NoTraceLine lines)) old new

-- A text of no trace was read, which has this first fault.
abbrev pub HasNoTrace : Refusal → Input → Input → Type 0
HasNoTrace (Text f) old new =
    HasFaultyText MOST_TRACE_BYTES (λ bytes. IsRefusal bytes (fault.Line f.line f.kind)) old new
HasNoTrace (NoTrace line) old new = LacksTrace old new line
HasNoTrace refusal old new = ⊥

-- The events by rising stamp and then thread number are a legal run, and its rows and last line were sent.
pub record SendsLegal (x : ExerciseView) (es : List Entry) (old new : Output) (failed : Bool) : Type 0 where
  pub order : List Entry
  pub accepted : IsAccepted x es order
  pub bytes : List ℕ
  pub text : IsLegalText x order bytes
  pub whole : Sends failed old new bytes

-- The fault says something of the events: it isn't want of memory, which has no lines.
abbrev pub SaysWhy : JudgeFault → Type 0
SaysWhy judged.NoMemory = ⊥
SaysWhy f = Unit {0}

-- No order of the events is a legal run, and the lines of the first fault were sent.
pub record SendsIllegal (x : ExerciseView) (es : List Entry) (old new : Output) (failed : Bool) : Type 0 where
  pub fault : JudgeFault
  pub why : SaysWhy fault
  pub first : IsFault x es fault
  pub illegal : AreLegal x es → ⊥
  pub whole : Sends failed old new (refusal_text x fault)

-- Memory ran out while the rows of the legal run were written: a prefix of them and the last line was, and not all.
pub record SendsShort (x : ExerciseView) (es : List Entry) (old new : Output) : Type 0 where
  pub order : List Entry
  pub accepted : IsAccepted x es order
  pub bytes : List ℕ
  pub text : IsLegalText x order bytes
  pub written : AppendsProperPrefix old.written new.written bytes

-- What is answered of a trace of the exercise and these events.
abbrev pub JudgeAnswers : ExerciseView → List Entry → Output → Output → Answer → Type 0
JudgeAnswers x es old new (answer.Wrote failed) = SendsLegal x es old new failed
JudgeAnswers x es old new (answer.Illegal failed) = SendsIllegal x es old new failed
JudgeAnswers x es old new answer.NoMemory = (new ≡ old) ⊎ SendsShort x es old new
JudgeAnswers x es old new a = ⊥

-- The trace that was read is answered so.
pub record Judges (o : Exchange) (a : Answer) : Type 0 where
  pub exercise : ExerciseView
  pub entries : List Entry
  pub found : HasTrace o.source_before o.source_after exercise entries
  pub answers : JudgeAnswers exercise entries o.sink_before o.sink_after a

-- What `check` answers.
abbrev pub CheckAnswers : Exchange → Answer → Type 0
CheckAnswers o a = RefusesText MOST_TRACE_BYTES HasNoTrace o a ⊎ Judges o a
