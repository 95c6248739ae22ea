-- How a thread goes on with its program.
use Rattle.std.specs.Prelude.{◌≡◌, ℕ, ◌+◌, ◌<◌, ◌≤◌, ◌⊎◌, Bool, true, false, if◌then◌else◌, MatchBool, List}
use Rattle.tm_base.specs.declared.asks.Ask.{Ask}
use Rattle.tm_base.specs.declared.asks.Ask.TheVariants as ask
use Rattle.tm_base.specs.declared.operations.Op.{Op}
use Rattle.tm_base.specs.declared.operations.Op.TheVariants as op
use Rattle.tm_base.specs.declared.replies.Reply.{Reply}
use Rattle.tm_base.specs.declared.replies.Reply.TheVariants as reply
use Rattle.tm_base.specs.declared.events.Entry.{Entry}
use Rattle.tm_base.specs.Bodies.{goes_on_after}
use Rattle.tm_base.specs.Fits.{is_call}
use Rattle.tm_base.specs.Runs.{Leads}
use Rattle.tm_laws.specs.ThreadObjects.{is_end}
use Rattle.tm_worker.specs.declared.phases.Phase.{Phase}
use Rattle.tm_worker.specs.declared.phases.Phase.TheVariants as phase

-- Where the thread stands, what is left of its program, how many calls it made, and whether room for a call was
-- refused.
pub record ProgressView (B : Type 0) : Type 0 where
  pub phase : Phase
  pub body : B
  pub made : ℕ
  pub short : Bool

-- The phase after a reply on an object: the thread waits there, or its program goes on from the reply.
abbrev pub phase_by : Reply → ℕ → Phase
phase_by reply.Wait object = phase.Waits object
phase_by r object = phase.Replied r

-- The phase after an event.
abbrev pub phase_after : Entry → Phase
phase_after e = if is_end e.op then phase.Ended else phase_by e.reply e.object

abbrev pub is_ended : Phase → Bool
is_ended phase.Ended = true
is_ended p = false

-- The event is what comes next in the phase. `own` tells the thread's own object, on which it begins and ends.
abbrev pub IsNextIn : (ℕ → Bool) → Phase → ℕ → Op → Type 0
IsNextIn own phase.NotBegun object o = (o ≡ op.Begin) × (own object ≡ true)
IsNextIn own (phase.Waits at) object o = (o ≡ op.Resume) × (object ≡ at)
IsNextIn own (phase.Asked at asked) object o = (o ≡ asked) × (object ≡ at)
IsNextIn own (phase.Ends cut) object o = (o ≡ op.End cut) × (own object ≡ true)
IsNextIn own p object o = ⊥

-- An event of the thread is next, which its program need not be asked for.
abbrev pub is_due : Phase → Bool
is_due (phase.Replied r) = false
is_due phase.Ended = false
is_due p = true

-- A program is asked after a reply, if it wasn't over before.
abbrev pub asks_more : Phase → Bool
asks_more (phase.Ends cut) = false
asks_more phase.Ended = false
asks_more p = true

module _ {B : Type 0} where
  -- The thread after its next event.
  abbrev pub after_event : ProgressView B → Entry → ProgressView B
  after_event s e = record s { phase = phase_after e; made = s.made + (if is_call e.op then 1 else 0) }

  -- The thread turns to its `end`.
  abbrev pub ending : ProgressView B → Bool → ProgressView B
  ending s cut = record s { phase = phase.Ends cut }

  -- The same, since room for a call was refused.
  abbrev pub short_of_room : ProgressView B → ProgressView B
  short_of_room s = record s { phase = phase.Ends true; short = true }

  -- The thread, which may make so many calls, turns to what its program asks: where that is over, to its `end`; to
  -- the call, where it may make one more, or to its `end`, cut, where room for the call is refused; else to its
  -- `end`, cut.
  abbrev pub TurnsTo : ℕ → Ask → ProgressView B → ProgressView B → Type 0
  TurnsTo limit ask.Over s m = m ≡ ending s false
  TurnsTo limit (ask.Call object o) s m =
      ((s.made < limit) × ((m ≡ record s { phase = phase.Asked object o }) ⊎ (m ≡ short_of_room s)))
      ⊎ ((limit ≤ s.made) × (m ≡ ending s true))

  -- A call that was asked may be given up, where the object has no room for it.
  abbrev pub GivesUpIn : Phase → ProgressView B → ProgressView B → Type 0
  GivesUpIn (phase.Asked object o) s m = (m ≡ s) ⊎ (m ≡ short_of_room s)
  GivesUpIn p s m = m ≡ s

-- A program answers what it asks after a reply, and what is left of it.
module _ {B : Type 0} (asked : B → Reply → Ask) (rest : B → Reply → B) (limit : ℕ) where
  -- A thread whose call has its final reply asks its program, unless the reply is `stopped`, which cuts it short.
  abbrev pub PreparesIn : Phase → ProgressView B → ProgressView B → Type 0
  PreparesIn (phase.Replied r) s m =
      MatchBool (goes_on_after r) (TurnsTo limit (asked s.body r) (record s { body = rest s.body r }) m) (m ≡ ending s true)
  PreparesIn p s m = m ≡ s

  -- What the thread does before its next event: nothing; or it prepares that event, and may give a call up.
  pub record Prepares (s m : ProgressView B) : Type 0 where
    pub turned : ProgressView B
    pub prepares : PreparesIn s.phase s turned
    pub gives_up : GivesUpIn turned.phase turned m

  abbrev pub GoesOn : ProgressView B → ProgressView B → Type 0
  GoesOn s m = (m ≡ s) ⊎ Prepares s m

  -- The event is the thread's next one, by its program and the limit of calls.
  pub record ProgramStep (own : ℕ → Bool) (s : ProgressView B) (e : Entry) (s' : ProgressView B) : Type 0 where
    pub turned : ProgressView B
    pub goes_on : GoesOn s turned
    pub next : IsNextIn own turned.phase e.object e.op
    pub after : s' ≡ after_event turned e

  -- The events are the thread's next ones, one after another.
  pub record ProgramRun (own : ℕ → Bool) (s : ProgressView B) (events : List Entry) (s' : ProgressView B) : Type 0 where
    pub last : ProgressView B
    pub run : Leads (ProgramStep own) s events last
    pub goes_on : GoesOn last s'
