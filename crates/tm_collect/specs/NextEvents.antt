-- What a collector that has shown all that arrived does with the next event of a run.
use Rattle.std.specs.Prelude.{◌≡◌, ℕ, ◌+◌, false, List, [], ◌∷◌, ◌++◌, None}
use Rattle.tm_base.specs.declared.events.Entry.{Entry}
use Rattle.tm_text.specs.Exercises.{IsWellFormed}
use Rattle.tm_timeline.specs.Rows.{row_of}
use Rattle.tm_replay.specs.JointStates.{JointState}
use Rattle.tm_replay.specs.JointSteps.{JointStep}
use Rattle.tm_replay.specs.Bars.{bars_of}
use Rattle.tm_collect.specs.Sending.{Outlet, Sends, SendsPrefix}
use Rattle.tm_collect.specs.Collectors.{CollectorView, IsCollecting, shown_of}
use Rattle.tm_collect.specs.Handing.{Hands}
use Rattle.tm_collect.specs.Pumping.{Answers, LacksSpace}

-- All that arrived is shown and applied: no event is held or refused, and no `pump` found memory short.
pub record ShowsAll (v : CollectorView) : Type 0 where
  pub collecting : IsCollecting v
  pub formed : IsWellFormed v.exercise
  pub shown : v.merger.held ≡ []
  pub unrefused : v.refusal ≡ None
  pub ample : v.short ≡ false

-- The row of the event that leaves the joint state, which is the collector's next.
abbrev pub next_row : CollectorView → Entry → JointState → List ℕ
next_row v e k = row_of v.exercise (v.joint.applied + 1) e (bars_of k)

-- Of the old collector this event was shown next and applied, and no other; its row was sent; and all that
-- arrived is shown again.
pub record ShowsNext (v : CollectorView) (e : Entry) (k : JointState) (w : CollectorView) (o p : Outlet) : Type 0 where
  pub all : ShowsAll w
  pub exercise : w.exercise ≡ v.exercise
  pub events : shown_of w ≡ shown_of v ++ e ∷ []
  pub state : w.joint.state ≡ k
  pub count : w.joint.applied ≡ v.joint.applied + 1
  pub sent : Sends o p (next_row v e k)

-- Where all is shown, an event that can happen next in the joint state is taken when it is handed in, and the
-- `pump` after it shows it, alone, and leaves the joint state that it leaves.
abbrev pub NextEventsAreShown : Type 0
NextEventsAreShown = (v m w : CollectorView) (e : Entry) (k : JointState) (o p : Outlet) (n : ℕ)
    → ShowsAll v → IsCollecting w → JointStep v.exercise v.joint.state e k → Hands v e m → Answers m w o p n → ShowsNext v e k w o p

-- Where memory runs out in that `pump`, the first bytes of the event's row were sent, and no others.
abbrev pub NextRowsAreBegun : Type 0
NextRowsAreBegun = (v m w : CollectorView) (e : Entry) (k : JointState) (o p : Outlet)
    → ShowsAll v → JointStep v.exercise v.joint.state e k → Hands v e m → LacksSpace m w o p → SendsPrefix o p (next_row v e k)
