-- What turns of a worker leave.
use Rattle.std.specs.Prelude.{◌≡◌, ◌≢◌, ℕ, suc, ◌^◌, ◌<◌, ◌&&◌, ◌||◌, Bool, true, false, not, nat_lt, is_none, List, [], ◌∷◌, ◌++◌}
use Rattle.tm_base.specs.declared.asks.Ask.{Ask}
use Rattle.tm_base.specs.declared.operations.Op.{Op}
use Rattle.tm_base.specs.declared.operations.Op.TheVariants as op
use Rattle.tm_base.specs.declared.replies.Reply.{Reply}
use Rattle.tm_base.specs.declared.events.Entry.{Entry}
use Rattle.tm_shared.specs.Faults.{SawItWait}
use Rattle.tm_turn.specs.Passes.{PassView}
use Rattle.tm_worker.specs.declared.phases.Phase.{Phase}
use Rattle.tm_worker.specs.declared.phases.Phase.TheVariants as phase
use Rattle.tm_worker.specs.declared.turned.Turned.{Turned}
use Rattle.tm_worker.specs.declared.turned.Turned.TheVariants as turned
use Rattle.tm_worker.specs.Logs.{LogView, AtPass, IsOwnStep}
use Rattle.tm_worker.specs.Progresses.{ProgressView, GivesUpIn, GoesOn, IsNextIn, ProgramRun, ProgramStep, after_event, is_ended}

-- The thread's next event was sent, once, and the ticket went on by it.
pub record SendsOne (old : LogView) (e : Entry) (new : LogView) : Type 0 where
  pub step : IsOwnStep new.passes old.ticket e new.ticket
  pub sent : new.outbox.sent ≡ old.outbox.sent ++ e ∷ []
  pub ring : new.outbox.ring ≡ old.outbox.ring

-- Nothing was sent.
pub record SendsNone (old new : LogView) : Type 0 where
  pub sent : new.outbox.sent ≡ old.outbox.sent
  pub ticket : new.ticket ≡ old.ticket
  pub ring : new.outbox.ring ≡ old.outbox.ring

-- The pass lost the turn in this call to another, whose number this is: it keeps the word that it read.
pub record LostSince (holder : ℕ) (old new : PassView) : Type 0 where
  pub misses : old.misses < new.misses
  pub missed : new.missed ≡ suc holder
  pub other : holder ≢ old.number

-- The thread's next event, on an object whose turn was lost.
pub record LostAtNext (own : ℕ → Bool) (now : Phase) (old new : LogView) (holder : ℕ) : Type 0 where
  pub object : ℕ
  pub o : Op
  pub next : IsNextIn own now object o
  pub lost : AtPass old.passes new.passes object (LostSince holder)

-- The thread saw at its own turn that its call waits.
pub record SawItWaitAt (now : Phase) (old new : LogView) : Type 0 where
  pub object : ℕ
  pub waits : now ≡ phase.Waits object
  pub saw : AtPass old.passes new.passes object (λ p q. SawItWait p.label p q)

-- On its own object a thread that hasn't begun makes its `begin`, and one that ends its `end`.
abbrev pub IsOwnEvent : Phase → Op → Type 0
IsOwnEvent phase.NotBegun o = o ≡ op.Begin
IsOwnEvent (phase.Ends cut) o = o ≡ op.End cut
IsOwnEvent p o = ⊥

-- A worker's clock has come so far that it makes no event more: its call doesn't wait, and it hasn't ended.
abbrev pub is_worn : {B : Type 0} → ProgressView B → LogView → Bool
is_worn s log = not (nat_lt log.ticket.clock (2 ^ 62)) && is_none log.ticket.waits && not (is_ended s.phase)

-- The worker answers that it makes no event more.
abbrev pub is_over : Turned → Bool
is_over turned.Over = true
is_over t = false

-- The worker makes no event more: it made its `end`, or it is worn.
abbrev pub is_done : {B : Type 0} → ProgressView B → LogView → Bool
is_done s log = is_ended s.phase || is_worn s log

module _ {B : Type 0} where
  -- What one attempt at the thread's next event leaves.
  abbrev pub Attempts : (ℕ → Bool) → ProgressView B → LogView → Turned → ProgressView B → LogView → Type 0
  Attempts own s old (turned.Made e) s' new = (IsNextIn own s.phase e.object e.op) × (s' ≡ after_event s e) × SendsOne old e new
  Attempts own s old turned.NotYet s' new = (s' ≡ s) × SendsNone old new × SawItWaitAt s.phase old new
  Attempts own s old (turned.Busy holder) s' new = (s' ≡ s) × SendsNone old new × LostAtNext own s.phase old new holder
  Attempts own s old turned.Over s' new = ⊥

-- The same, where a call that was asked may be given up before.
pub record Tries {B : Type 0} (own : ℕ → Bool) (s : ProgressView B) (old : LogView) (t : Turned) (s' : ProgressView B) (new : LogView) : Type 0 where
  pub turned : ProgressView B
  pub gives_up : GivesUpIn s.phase s turned
  pub attempts : Attempts own turned old t s' new

module _ {B : Type 0} (asked : B → Reply → Ask) (rest : B → Reply → B) (limit : ℕ) where
  -- What a turn leaves: it makes the thread's next event, by its program, and sends it; or it makes none, since the
  -- thread's call waits, since the turn of the object of the next event was lost, or since the thread makes no more.
  abbrev pub Turns : (ℕ → Bool) → ProgressView B → LogView → Turned → ProgressView B → LogView → Type 0
  Turns own s old (turned.Made e) s' new = ProgramStep asked rest limit own s e s' × SendsOne old e new
  Turns own s old turned.NotYet s' new = (s' ≡ s) × SendsNone old new × SawItWaitAt s.phase old new
  Turns own s old (turned.Busy holder) s' new = GoesOn asked rest limit s s' × SendsNone old new × LostAtNext own s'.phase old new holder
  Turns own s old turned.Over s' new = (s' ≡ s) × (new ≡ old)

  -- The worker made these events, which are its next ones by its program, and sent each once and no other.
  pub record Ran (own : ℕ → Bool) (s : ProgressView B) (old : LogView) (s' : ProgressView B) (new : LogView) : Type 0 where
    pub made : List Entry
    pub run : ProgramRun asked rest limit own s made s'
    pub sent : new.outbox.sent ≡ old.outbox.sent ++ made
    pub ring : new.outbox.ring ≡ old.outbox.ring
    pub thread : new.ticket.thread ≡ old.ticket.thread
