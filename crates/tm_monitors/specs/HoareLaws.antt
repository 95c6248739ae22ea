-- Who comes inside a Hoare monitor, over its history.
use Rattle.std.specs.Prelude.{◌≡◌, ◌≢◌, ◌⊎◌, ℕ, List, [], ◌∷◌, Some}
use Rattle.tm_base.specs.declared.operations.Op.TheVariants as op
use Rattle.tm_base.specs.declared.replies.Reply.TheVariants as reply
use Rattle.tm_base.specs.declared.kinds.Kind.TheVariants as kind
use Rattle.tm_base.specs.declared.events.Entry.{Entry}
use Rattle.tm_base.specs.States.{State}
use Rattle.tm_base.specs.Runs.{Leads}
use Rattle.tm_base.specs.Histories.{Label, HistoryState, Follows, IsHistory}
use Rattle.tm_monitors.specs.MonitorStates.{inside_of, urgent_of, oldest_at}

-- The event is the thread's `resume`.
abbrev pub IsResumeOf : ℕ → Entry → Type 0
IsResumeOf t e = (e.thread ≡ t) × (e.op ≡ op.Resume)

-- None of the events is the thread's `resume`.
abbrev pub HaveNoResumeOf : ℕ → List Entry → Type 0
HaveNoResumeOf t [] = Unit {0}
HaveNoResumeOf t (e ∷ es) = (IsResumeOf t e → ⊥) × HaveNoResumeOf t es

-- From this point of a history on the thread is inside, in every state up to and including the one after its
-- `resume`.
pub record IsInsideUntilResumed (l : Label) (t : ℕ) (p : HistoryState) : Type 0 where
  pub before :
      (es : List Entry) (q : HistoryState) → Leads (Follows l) p es q → HaveNoResumeOf t es →
      inside_of q.state.kind_state ≡ Some t
  pub resumed :
      (es : List Entry) (q : HistoryState) (e : Entry) (r : HistoryState) → Leads (Follows l) p es q →
      HaveNoResumeOf t es → Follows l q e r → IsResumeOf t e → inside_of r.state.kind_state ≡ Some t

-- After every legal history of a Hoare monitor a `signal` that the thread inside makes of a condition at
-- which somebody waits is answered `wait`, and lets in the oldest that waits there; and nobody else comes
-- inside before that one has resumed.
abbrev pub SignalledComesInside : Type 0
SignalledComesInside =
    (l : Label) (count : ℕ) (es : List Entry) (p : HistoryState) (e : Entry) (q : HistoryState) (c t : ℕ) →
    l.kind ≡ kind.Hoare count → IsHistory l es p → Follows l p e q →
    inside_of p.state.kind_state ≡ Some e.thread → e.op ≡ op.Signal c →
    oldest_at p.state.kind_state c ≡ Some t →
    (e.reply ≡ reply.Wait) × IsInsideUntilResumed l t q

-- And no other `signal` waits: each that is answered `wait` is made by the thread inside, and lets in the
-- oldest that waits at its condition.
abbrev pub OnlySuchSignalsWait : Type 0
OnlySuchSignalsWait =
    (l : Label) (count : ℕ) (es : List Entry) (p : HistoryState) (e : Entry) (q : HistoryState) (c : ℕ) →
    l.kind ≡ kind.Hoare count → IsHistory l es p → Follows l p e q →
    e.op ≡ op.Signal c → e.reply ≡ reply.Wait →
    (inside_of p.state.kind_state ≡ Some e.thread) ×
    ((t : ℕ) × (oldest_at p.state.kind_state c ≡ Some t) × IsInsideUntilResumed l t q)

-- In one event of a Hoare monitor, on whose urgent stack this thread is the newest: it comes inside by each
-- event that lets another thread in than the one before, unless that is a `signal` that is answered `wait`
-- and lets in the oldest that waits at its condition; and it comes inside by the `leave` of the thread
-- inside, and by each `wait` that waits.
pub record LetsNewestIn (t : ℕ) (before : State) (e : Entry) (after : State) : Type 0 where
  pub only :
      inside_of after.kind_state ≢ inside_of before.kind_state →
      (inside_of after.kind_state ≡ Some t) ⊎
      ((c : ℕ) × (e.op ≡ op.Signal c) × (e.reply ≡ reply.Wait) ×
      (inside_of after.kind_state ≡ oldest_at before.kind_state c))
  pub leave :
      e.op ≡ op.Leave → inside_of before.kind_state ≡ Some e.thread → inside_of after.kind_state ≡ Some t
  pub wait : (c : ℕ) → e.op ≡ op.Wait c → e.reply ≡ reply.Wait → inside_of after.kind_state ≡ Some t

-- After every legal history of a Hoare monitor in which a signaller waits, every next event is such an event:
-- signallers come inside before anyone at the entrance.
abbrev pub SignallersGoFirst : Type 0
SignallersGoFirst =
    (l : Label) (count : ℕ) (es : List Entry) (p : HistoryState) (e : Entry) (q : HistoryState) (t : ℕ)
    (urgent : List ℕ) →
    l.kind ≡ kind.Hoare count → IsHistory l es p → Follows l p e q →
    urgent_of p.state.kind_state ≡ t ∷ urgent →
    LetsNewestIn t p.state e q.state
